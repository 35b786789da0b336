-- A run of blocks, one after another: N(S) starts at 0 and alternates, M is set in all but the last.
use Rattle.std.specs.Prelude.{◌≡◌, ◌⊎◌, true, false, List, [], ◌∷◌, ◌++◌, ℕ, zero, suc, ◌+◌, ◌-◌, ◌<◌, eqb, length, take, drop}
use Rattle.table.specs.Checks.{Checks, Checked}
use Rattle.card.specs.Block.{len, sequence_of, more_of, framing_checks, content_checks, IBlock}

-- a run from N(S) = turn on, and what it carries: a block without M; or one with M, and then a run from the other N(S) on; the information bytes are joined in order
pub data BlockRun : ℕ → List ℕ → List ℕ → Type 0 where
  last : {turn : ℕ} {block info : List ℕ} → IBlock block turn 0 info → BlockRun turn block info
  chained : {turn : ℕ} {block rest info others : List ℕ} → IBlock block turn 1 info → BlockRun (1 - turn) rest others → BlockRun turn (block ++ rest) (info ++ others)

-- the first block of what is left of a run, as long as its LEN tells, and what is left behind it
abbrev pub first : List ℕ → List ℕ
first left = take (len left + 4) left

abbrev pub behind : List ℕ → List ℕ
behind left = drop (len left + 4) left

-- 13: fewer than LEN + 4 bytes are left
abbrev pub left_checks : List ℕ → Checks
left_checks left = (13, length left < len left + 4) ∷ []

-- 11 12 13 of what is left; 14 15 of its first block alone
abbrev pub first_checks : List ℕ → Checks
first_checks left = framing_checks left ++ left_checks left ++ content_checks (first left)

-- 20: N(S) is not the turn
abbrev pub turn_checks : ℕ → ℕ → Checks
turn_checks sequence turn = (20, sequence ≡ turn → ⊥) ∷ []

-- 21: M is set and no byte is left behind the block, or M is not set and some are
abbrev pub WrongEnd : ℕ → ℕ → Type 0
WrongEnd more bytes = ((more ≡ 1) × (bytes ≡ 0)) ⊎ ((more ≡ 0) × (0 < bytes))

abbrev pub end_checks : ℕ → ℕ → Checks
end_checks more bytes = (21, WrongEnd more bytes) ∷ []

-- 20 21
abbrev pub link_checks : ℕ → List ℕ → Checks
link_checks turn left = turn_checks (sequence_of left) turn ++ end_checks (more_of left) (length (behind left))

-- 11 12 13 14 15 20 21 of the first block of what is left
abbrev pub block_checks_in : ℕ → List ℕ → Checks
block_checks_in turn left = first_checks left ++ link_checks turn left

-- checks that are made only where M is set
abbrev pub with_more : ℕ → Checks → Checks
with_more more checks = elim (eqb more 1) [ true ↦ checks | false ↦ [] ]

-- these, and then, only where M is set, the same of what is left with the other turn, of at most n blocks more
abbrev pub run_checks : ℕ → ℕ → List ℕ → Checks
run_checks zero turn left = block_checks_in turn left
run_checks (suc n) turn left = block_checks_in turn left ++ with_more (more_of left) (run_checks n (1 - turn) (behind left))

-- of all blocks: each takes four bytes at least, so a run has fewer blocks than bytes
abbrev pub rest_checks : ℕ → List ℕ → Checks
rest_checks turn left = run_checks (length left) turn left

-- the checks of a run come to a block once those of each block before it refuse nothing and M is set in each: what is left begins with it, and next is the N(S) that it is to have
pub data Reached : ℕ → List ℕ → ℕ → List ℕ → Type 0 where
  first_one : {turn : ℕ} {run : List ℕ} → Reached turn run turn run
  one_more : {turn next : ℕ} {run left : List ℕ} → Checked (block_checks_in turn run) 0 → more_of run ≡ 1 → Reached (1 - turn) (behind run) next left → Reached turn run next left

-- and nothing behind it is looked at: it refuses, or M is not set
abbrev pub ReadingEnds : ℕ → List ℕ → Type 0
ReadingEnds turn left = Checked (block_checks_in turn left) 0 → more_of left ≡ 1 → ⊥

-- 16: the joined bytes are more than there is room for
abbrev pub joined_checks : List ℕ → ℕ → Checks
joined_checks run room = (16, (info : List ℕ) × BlockRun 0 run info × (room < length info)) ∷ []

-- block after block from N(S) = 0 on; 16 last
abbrev pub read_checks : List ℕ → ℕ → Checks
read_checks run room = rest_checks 0 run ++ joined_checks run room
