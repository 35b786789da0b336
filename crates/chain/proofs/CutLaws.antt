-- Laws of a packet cut into blocks: its first block, how long they are together, and that they are a run of the packet. Assumes nothing.
use mathlib.Core.Path.{◌≡◌, refl, sym, ap, subst, ◌∙◌}
use mathlib.Core.List.{List, ◌++◌}
use Prim.Native.Nat.{ℕ, zero, suc, ◌+◌, ◌-◌, ◌*◌, ◌/◌, ◌≤◌, ◌<◌}
use native.Mathlib.Omega.{arith}
use native.Mathlib.Nat.{div-eq_of_lt, div-eq-sub-div, div-le_self}
use native.Mathlib.Decide.{dec_le}
use borrow.Author.Tests.{le-leb, lt-leb}
use lib.ListN.{length, take, drop, length-append, length-take, length-drop, take-append-drop}
use Rattle.table.specs.Limits.{longest}
use Rattle.table.specs.Checks.{Checked}
use Rattle.table.proofs.CheckLaws.{numbered_by, zero_passes, not_outside}
use Rattle.card.specs.Block.{max_information, block_of}
use Rattle.card.proofs.IBlocks.{made_block, block_length}
use Rattle.chain.specs.Run.{BlockRun, last, chained}
use Rattle.chain.specs.Cut.{cut_from, cut_into, blocks_longest, write_checks}

-- size bytes or fewer are one block without M
pub cut_last : (n turn size : ℕ) (left : List ℕ) → length left ≤ size → cut_from n turn size left ≡ block_of turn 0 left
unfolding cut_from
cut_last zero turn size left h = refl
cut_last (suc n) turn size left h = rw (le-leb (length left) size h)

-- more are one of size bytes with M, and the rest cut
pub cut_more : (n turn size : ℕ) (left : List ℕ) → size < length left → cut_from (suc n) turn size left ≡ block_of turn 1 (take size left) ++ cut_from n (1 - turn) size (drop size left)
unfolding cut_from
cut_more n turn size left h = rw (lt-leb (length left) size h)

-- a count of blocks that is large enough changes nothing
pub cut_enough : (n n' turn size : ℕ) (left : List ℕ) → 1 ≤ size → length left ≤ n → length left ≤ n' → cut_from n turn size left ≡ cut_from n' turn size left
cut_enough zero n' turn size left l h h' = cut_last zero turn size left (omega arith) ∙ sym (cut_last n' turn size left (omega arith))
cut_enough (suc n) zero turn size left l h h' = cut_last (suc n) turn size left (omega arith) ∙ sym (cut_last zero turn size left (omega arith))
cut_enough (suc n) (suc n') turn size left l h h' = elim (dec_le (length left) size) [
  | yes e ↦ cut_last (suc n) turn size left e ∙ sym (cut_last (suc n') turn size left e)
  | no e ↦ (
      let rest = cut_enough n n' (1 - turn) size (drop size left) l (simp length-drop (omega arith)) (simp length-drop (omega arith)) in
      cut_more n turn size left (omega arith) ∙ ap (λ x. block_of turn 1 (take size left) ++ x) rest ∙ sym (cut_more n' turn size left (omega arith)))
]

-- as many blocks as a packet of so many bytes is cut into
abbrev pub blocks : ℕ → ℕ → ℕ
blocks size count = (count - 1) / size + 1

-- a block more for size bytes more
blocks_more : (size count : ℕ) → 1 ≤ size → size < count → blocks size count ≡ blocks size (count - size) + 1
blocks_more size count l h =
    let e : count - 1 - size ≡ count - size - 1 = omega arith in
    ap (λ x. x + 1) (div-eq-sub-div {m = size} {n = count - 1} (omega arith) (omega arith) ∙ ap (λ x. x / size + 1) e)

-- the blocks' bytes: of one block, and of one more
last_length : (n turn size : ℕ) (left : List ℕ) → 1 ≤ size → length left ≤ size → length (cut_from n turn size left) ≡ length left + 4 * blocks size (length left)
last_length n turn size left l e =
    let z : (length left - 1) / size ≡ 0 = div-eq_of_lt (omega arith) in
    ap length (cut_last n turn size left e) ∙ omega (arith, block_length turn 0 left)

more_length : (n turn size : ℕ) (left : List ℕ) → 1 ≤ size → size < length left
    → length (cut_from n (1 - turn) size (drop size left)) ≡ length (drop size left) + 4 * blocks size (length (drop size left))
    → length (cut_from (suc n) turn size left) ≡ length left + 4 * blocks size (length left)
more_length n turn size left l e others =
    let rest = drop size left in
    let shorter : length rest ≡ length left - size = length-drop size left in
    let front : length (take size left) ≡ size = simp length-take (omega arith) in
    let one_more : blocks size (length left) ≡ blocks size (length rest) + 1 = blocks_more size (length left) l e ∙ ap (λ x. blocks size x + 1) (sym shorter) in
    ap length (cut_more n turn size left e) ∙ length-append (block_of turn 1 (take size left)) (cut_from n (1 - turn) size rest)
    ∙ omega (arith, block_length turn 1 (take size left))

from_length : (n turn size : ℕ) (left : List ℕ) → 1 ≤ size → length left ≤ n → length (cut_from n turn size left) ≡ length left + 4 * blocks size (length left)
from_length zero turn size left l h = last_length zero turn size left l (omega arith)
from_length (suc n) turn size left l h = elim (dec_le (length left) size) [
  | yes e ↦ last_length (suc n) turn size left l e
  | no e ↦ more_length n turn size left l (omega arith) (from_length n (1 - turn) size (drop size left) l (simp length-drop (omega arith)))
]

-- the bytes of all blocks are those of the packet, and 4 for each block
pub cut_length : (size : ℕ) (packet : List ℕ) → 1 ≤ size → length (cut_into size packet) ≡ length packet + 4 * blocks size (length packet)
cut_length size packet l = from_length (length packet) 0 size packet l (omega arith)

-- so for the longest packet they are no more than the limit
pub cut_at-most : (size : ℕ) (packet : List ℕ) → 1 ≤ size → length packet ≤ longest → length (cut_into size packet) ≤ blocks_longest
cut_at-most size packet l h = omega (arith, cut_length size packet l, div-le_self (length packet - 1) size)

-- what is left, cut: one block is a run, and one more before a run
last_run : (n turn size : ℕ) (left : List ℕ) → turn < 2 → size ≤ max_information → length left ≤ size → BlockRun turn (cut_from n turn size left) left
last_run n turn size left t s e =
    subst (λ x. BlockRun turn x left) (sym (cut_last n turn size left e)) (last (made_block turn 0 left t (omega arith) (omega arith)))

more_run : (n turn size : ℕ) (left : List ℕ) → turn < 2 → size ≤ max_information → size < length left
    → BlockRun (1 - turn) (cut_from n (1 - turn) size (drop size left)) (drop size left) → BlockRun turn (cut_from (suc n) turn size left) left
more_run n turn size left t s e others =
    let front = made_block turn 1 (take size left) t (omega arith) (simp length-take (omega arith)) in
    subst (λ x. BlockRun turn x left) (sym (cut_more n turn size left e))
    (subst (λ x. BlockRun turn (block_of turn 1 (take size left) ++ cut_from n (1 - turn) size (drop size left)) x) (take-append-drop size left) (chained front others))

from_run : (n turn size : ℕ) (left : List ℕ) → turn < 2 → 1 ≤ size → size ≤ max_information → length left ≤ n → BlockRun turn (cut_from n turn size left) left
from_run zero turn size left t l s h = last_run zero turn size left t s (omega arith)
from_run (suc n) turn size left t l s h = elim (dec_le (length left) size) [
  | yes e ↦ last_run (suc n) turn size left t s e
  | no e ↦ more_run n turn size left t s (omega arith) (from_run n (1 - turn) size (drop size left) (omega arith) l s (simp length-drop (omega arith)))
]

-- a packet that is cut is a run of that packet
pub cut_is_a_run : (size : ℕ) (packet : List ℕ) → 1 ≤ size → size ≤ max_information → BlockRun 0 (cut_into size packet) packet
cut_is_a_run size packet l s = from_run (length packet) 0 size packet (omega arith) l s (omega arith)

-- where the writer refuses nothing, the size is in its range, and the blocks fit
pub blocks_fit : (packet : List ℕ) (size room : ℕ) {n : ℕ} → Checked (write_checks packet size room) n → n ≡ 0 → (1 ≤ size) × (size ≤ max_information) × (length (cut_into size packet) ≤ room)
blocks_fit packet size room c z =
    let p = zero_passes (write_checks packet size room) (numbered_by (write_checks packet size room) refl) (subst (Checked (write_checks packet size room)) z c) in
    let r = not_outside max_information size p.0 in
    (r.0, r.1, elim (dec_le (length (cut_into size packet)) room) [ yes l ↦ l | no l ↦ absurd (p.1.1.0 (omega arith)) ])
