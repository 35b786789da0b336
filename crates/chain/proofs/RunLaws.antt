-- Laws of a run of blocks: what its first block is, its checks block after block, and that it carries one list of bytes only. Assumes nothing.
use mathlib.Core.Path.{◌≡◌, refl, sym, ap, ap₂, subst, ◌∙◌}
use mathlib.Core.Logic.{◌⊎◌, inl, inr}
use mathlib.Core.Bool.{Bool, true, false}
use mathlib.Core.List.{List, [], ◌++◌, append_assoc, append-nil}
use Prim.Native.Nat.{ℕ, zero, suc, ◌+◌, ◌-◌, ◌*◌, ◌≤◌, ◌<◌}
use native.Mathlib.Omega.{arith}
use native.Mathlib.Decide.{ℕ_discrete, dec_lt}
use lib.Dec.{eqb}
use borrow.Author.Tests.{eqb-true, eqb-false, eq-eqb, ne_eqb}
use lib.ListN.{length, take, length-append, length-take, length-drop, take-append-drop}
use lib.Seq.{take_at, drop_at, take_all, get_or-take}
use Rattle.bits.specs.Bits.{Bytes}
use Rattle.bits.proofs.BitLaws.{bytes_take, bytes_drop}
use Rattle.table.specs.Checks.{Checks, Checked}
use Rattle.table.proofs.CheckLaws.{Numbered, numbered_by, numbered_both, passed, zero_passes, passes_zero, not_unequal, neither, stops, goes, stops_or_goes}
use Rattle.card.specs.Block.{pcb, len, information, sequence_of, more_of, block_of, IBlock}
use Rattle.card.proofs.BlockLaws.{Formed, taken_or_not, information-length}
use Rattle.card.proofs.IBlocks.{block_length, carried, iblock_formed, formed_iblock}
use Rattle.chain.specs.Run.{BlockRun, last, chained, first, behind, first_checks, WrongEnd, link_checks, block_checks_in, with_more, run_checks, rest_checks}

-- ---- a block, and whatever comes behind it

pub record StartsWith (left block rest : List ℕ) (sequence more : ℕ) (info : List ℕ) : Type 0 where
  pub len_is : len left ≡ length info
  pub information_is : information left ≡ info
  pub sequence_is : sequence_of left ≡ sequence
  pub more_is : more_of left ≡ more
  pub first_is : first left ≡ block
  pub behind_is : behind left ≡ rest
  pub length_is : length left ≡ length info + 4 + length rest

pub starts_with : {block : List ℕ} {sequence more : ℕ} {info : List ℕ} → IBlock block sequence more info → (rest : List ℕ) → StartsWith (block ++ rest) block rest sequence more info
starts_with {block} {sequence} {more} {info} b rest =
    let e : block ++ rest ≡ block_of sequence more info ++ rest = ap (λ x. x ++ rest) b.made in
    let p : pcb (block ++ rest) ≡ 0x40 * sequence + 0x20 * more = ap pcb e in
    let l : len (block ++ rest) ≡ length info = ap len e in
    let n : length block ≡ length info + 4 = ap length b.made ∙ block_length sequence more info in
    record {
      len_is = l;
      information_is = ap information e ∙ ap (take (length info)) (append_assoc info _ rest) ∙ take_at info _ (length info) refl;
      sequence_is = omega (arith, b.sequence_bit, b.more_bit);
      more_is = omega (arith, b.sequence_bit, b.more_bit);
      first_is = take_at block rest (len (block ++ rest) + 4) (omega arith);
      behind_is = drop_at block rest (len (block ++ rest) + 4) (omega arith);
      length_is = length-append block rest ∙ ap (λ x. x + length rest) n;
    }

-- ---- the first block of what is left passes its checks

pub record Linked (turn : ℕ) (left : List ℕ) : Type 0 where
  pub fits : len left + 4 ≤ length left
  pub formed : Formed (first left)
  pub in_turn : sequence_of left ≡ turn
  pub goes_on : more_of left ≡ 1 → 0 < length (behind left)
  pub ends : more_of left ≡ 0 → length (behind left) ≡ 0

-- the first bytes of the first block are those of what is left
module _ (left : List ℕ) where
  first-len : len (first left) ≡ len left
  first-len = get_or-take (len left + 4) left 2 0 (omega arith)

  first-pcb : pcb (first left) ≡ pcb left
  first-pcb = get_or-take (len left + 4) left 1 0 (omega arith)

  first-length : len left + 4 ≤ length left → length (first left) ≡ len left + 4
  first-length h = simp length-take (omega arith)

-- where 11 to 15 refuse nothing, the first block is there
pub first_fits : (left : List ℕ) {n : ℕ} → Checked (first_checks left) n → n ≡ 0 → len left + 4 ≤ length left
first_fits left c z =
    let p = zero_passes (first_checks left) (numbered_by (first_checks left) refl) (subst (Checked (first_checks left)) z c) in
    elim (dec_lt (length left) (len left + 4)) [ yes l ↦ absurd (p.1.1.0 l) | no n ↦ omega arith ]

pub linked : (turn : ℕ) (left : List ℕ) → Checked (block_checks_in turn left) 0 → Linked turn left
linked turn left c =
    let p = zero_passes (block_checks_in turn left) (numbered_by (block_checks_in turn left) refl) c in
    let content = p.1.1.1 in
    let link = content.1.1 in
    let fits = first_fits left (passed (first_checks left) (link_checks turn left) (numbered_by (first_checks left) refl) c).0 refl in
    record {
      fits = fits;
      formed = record {
        free = λ e. p.1.0 (sym (first-len left) ∙ e);
        exact = first-length left fits ∙ ap (λ n. n + 4) (sym (first-len left));
        summed = not_unequal content.0;
        to_us = not_unequal (λ n. content.1.0 (inl n));
        taken = taken_or_not (pcb (first left)) (λ n. content.1.0 (inr n));
      };
      in_turn = not_unequal link.0;
      goes_on = λ e. elim (ℕ_discrete (length (behind left)) 0) [ yes z ↦ absurd (link.1.0 (inl (e, z))) | no n ↦ omega arith ];
      ends = λ e. elim (ℕ_discrete (length (behind left)) 0) [ yes z ↦ z | no n ↦ absurd (link.1.0 (inr (e, omega arith))) ];
    }

-- the other way round: 11 to 15, and then all
first_passed : (left : List ℕ) → len left + 4 ≤ length left → Formed (first left) → Checked (first_checks left) 0
first_passed left fits f =
    passes_zero (first_checks left)
    (λ short. omega arith, (λ e. f.free (first-len left ∙ e), (λ short. omega arith, (λ u. u f.summed, (neither (λ u. u f.to_us) (λ u. u f.taken), tt)))))

linked_passes : (turn : ℕ) (left : List ℕ) → Linked turn left → Checked (block_checks_in turn left) 0
linked_passes turn left l =
    goes (first_checks left) (link_checks turn left) 0 (numbered_by (first_checks left) refl) (first_passed left l.fits l.formed)
    (passes_zero (link_checks turn left) (λ u. u l.in_turn, (neither (λ x. omega (arith, l.goes_on x.0, x.1)) (λ x. omega (arith, l.ends x.0, x.1)), tt)))

-- such a block is an I-block with this turn, and carries as many bytes as its LEN tells
module _ (turn : ℕ) (left : List ℕ) (bytes : Bytes left) (l : Linked turn left) where
  first_block : (more : ℕ) → more_of left ≡ more → IBlock (first left) turn more (information (first left))
  first_block more e =
      let p = first-pcb left in
      let s : sequence_of (first left) ≡ turn = omega (arith, l.in_turn) in
      let n : more_of (first left) ≡ more = omega arith in
      subst (λ x. IBlock (first left) turn x (information (first left))) n
      (subst (λ x. IBlock (first left) x (more_of (first left)) (information (first left))) s (formed_iblock (first left) (bytes_take left bytes (len left + 4)) l.formed))

  pub first_count : length (information (first left)) ≡ len left
  first_count = information-length (first left) l.formed.exact ∙ first-len left

  -- so without M what is left is a run, and with M it is one if what is left behind is
  pub run_last : more_of left ≡ 0 → BlockRun turn left (information (first left))
  run_last e =
      let n : length left ≤ len left + 4 = omega (arith, l.ends e, length-drop (len left + 4) left) in
      subst (λ x. BlockRun turn x (information (first left))) (take_all (len left + 4) left n) (last (first_block 0 e))

  pub run_more : more_of left ≡ 1 → {others : List ℕ} → BlockRun (1 - turn) (behind left) others → BlockRun turn left (information (first left) ++ others)
  run_more e {others} r =
      subst (λ x. BlockRun turn x (information (first left) ++ others)) (take-append-drop (len left + 4) left) (chained (first_block 1 e) r)

-- the other way round: an I-block and what comes behind it
pub link : {block : List ℕ} {turn more : ℕ} {info : List ℕ} → IBlock block turn more info → (rest : List ℕ) → (more ≡ 1 → 0 < length rest) → (more ≡ 0 → length rest ≡ 0) → Linked turn (block ++ rest)
link {block} {turn} {more} {info} b rest on off =
    let w = starts_with b rest in
    record {
      fits = omega (arith, w.len_is, w.length_is);
      formed = subst Formed (sym w.first_is) (iblock_formed b);
      in_turn = w.sequence_is;
      goes_on = λ e. subst (λ x. 0 < length x) (sym w.behind_is) (on (sym w.more_is ∙ e));
      ends = λ e. ap length w.behind_is ∙ off (sym w.more_is ∙ e);
    }

-- of an I-block 11 to 15 refuse nothing, whatever comes behind it
first_passes : {block : List ℕ} {sequence more : ℕ} {info : List ℕ} → IBlock block sequence more info → (rest : List ℕ) → Checked (first_checks (block ++ rest)) 0
first_passes {block} b rest =
    let w = starts_with b rest in
    let f : Formed (first (block ++ rest)) = subst Formed (sym w.first_is) (iblock_formed b) in
    first_passed (block ++ rest) (omega (arith, w.len_is, w.length_is)) f

-- out of turn it gives 20
pub out_of_turn : {block : List ℕ} {sequence more : ℕ} {info : List ℕ} → IBlock block sequence more info → (turn : ℕ) (rest : List ℕ) → (sequence ≡ turn → ⊥)
    → Checked (block_checks_in turn (block ++ rest)) 20
out_of_turn {block} b turn rest h =
    let left = block ++ rest in
    goes (first_checks left) (link_checks turn left) 20 (numbered_by (first_checks left) refl) (first_passes b rest) (inl (λ e. h (sym (starts_with b rest).sequence_is ∙ e), refl))

-- in turn, but with M and nothing behind it, or without M and something behind it, 21
pub wrong_end : {block : List ℕ} {turn more : ℕ} {info : List ℕ} → IBlock block turn more info → (rest : List ℕ) → WrongEnd more (length rest) → Checked (block_checks_in turn (block ++ rest)) 21
wrong_end {block} {turn} {more} b rest h =
    let left = block ++ rest in
    let w = starts_with b rest in
    let bytes = subst (λ x. WrongEnd more (length x)) (sym w.behind_is) h in
    goes (first_checks left) (link_checks turn left) 21 (numbered_by (first_checks left) refl) (first_passes b rest)
    (inr (λ n. n w.sequence_is, inl (subst (λ x. WrongEnd x (length (behind left))) (sym w.more_is) bytes, refl)))

-- ---- the checks of a run, block after block

without_more : (more : ℕ) (checks : Checks) → (more ≡ 1 → ⊥) → Checked (with_more more checks) 0
without_more more checks h = subst (λ v. Checked (elim v [ true ↦ checks | false ↦ [] ]) 0) (sym (ne_eqb more 1 h)) refl

with-more : (more : ℕ) (checks : Checks) (x : ℕ) → more ≡ 1 → Checked checks x → Checked (with_more more checks) x
with-more more checks x e c = subst (λ v. Checked (elim v [ true ↦ checks | false ↦ [] ]) x) (sym (eq-eqb more 1 e)) c

numbered_more : (more : ℕ) (checks : Checks) → Numbered checks → Numbered (with_more more checks)
numbered_more more checks p = go (eqb more 1)
  where
    go : (v : Bool) → Numbered (elim v [ true ↦ checks | false ↦ [] ])
    go true = p
    go false = tt

-- no check of a run has the number 0
pub numbered_run : (n turn : ℕ) (left : List ℕ) → Numbered (run_checks n turn left)
numbered_run zero turn left = numbered_by (block_checks_in turn left) refl
numbered_run (suc n) turn left =
    numbered_both (block_checks_in turn left) (with_more (more_of left) (run_checks n (1 - turn) (behind left))) (numbered_by (block_checks_in turn left) refl)
    (numbered_more (more_of left) (run_checks n (1 - turn) (behind left)) (numbered_run n (1 - turn) (behind left)))

module _ (turn : ℕ) (left : List ℕ) where
  -- what is checked behind the first block, of at most n blocks more
  abbrev behind_checks : ℕ → Checks
  behind_checks n = with_more (more_of left) (run_checks n (1 - turn) (behind left))

  -- the first block refuses
  pub run-refused : (n x : ℕ) → Checked (block_checks_in turn left) x → (x ≡ 0 → ⊥) → Checked (run_checks n turn left) x
  run-refused zero x c h = c
  run-refused (suc n) x c h = stops (block_checks_in turn left) (behind_checks n) x c h

  -- it does not, and has no M
  pub run_ends : (n : ℕ) → Checked (block_checks_in turn left) 0 → (more_of left ≡ 1 → ⊥) → Checked (run_checks n turn left) 0
  run_ends zero c h = c
  run_ends (suc n) c h =
      goes (block_checks_in turn left) (behind_checks n) 0 (numbered_by (block_checks_in turn left) refl) c (without_more (more_of left) (run_checks n (1 - turn) (behind left)) h)

  -- it does not, and has M
  run_goes_on : (n x : ℕ) → Checked (block_checks_in turn left) 0 → more_of left ≡ 1 → Checked (run_checks n (1 - turn) (behind left)) x → Checked (run_checks (suc n) turn left) x
  run_goes_on n x c e r =
      goes (block_checks_in turn left) (behind_checks n) x (numbered_by (block_checks_in turn left) refl) c (with-more (more_of left) (run_checks n (1 - turn) (behind left)) x e r)

-- which of the three it was
pub data BlockSeen (turn : ℕ) (left : List ℕ) (n x : ℕ) : Type 0 where
  refused : Checked (block_checks_in turn left) x → (x ≡ 0 → ⊥) → BlockSeen turn left n x
  ended : Checked (block_checks_in turn left) 0 → (more_of left ≡ 1 → ⊥) → x ≡ 0 → BlockSeen turn left n x
  went_on : Checked (block_checks_in turn left) 0 → more_of left ≡ 1 → Checked (run_checks n (1 - turn) (behind left)) x → BlockSeen turn left n x

pub block_seen : (turn : ℕ) (left : List ℕ) (n x : ℕ) → Checked (run_checks (suc n) turn left) x → BlockSeen turn left n x
block_seen turn left n x c = go (eqb (more_of left) 1) refl (stops_or_goes (block_checks_in turn left) (behind_checks turn left n) x (numbered_by (block_checks_in turn left) refl) c)
  where
    go : (v : Bool)
        → eqb (more_of left) 1 ≡ v
        → (Checked (block_checks_in turn left) x × (x ≡ 0 → ⊥)) ⊎ (Checked (block_checks_in turn left) 0 × Checked (elim v [ true ↦ run_checks n (1 - turn) (behind left) | false ↦ [] ]) x)
        → BlockSeen turn left n x
    go v q (inl y) = refused y.0 y.1
    go true q (inr y) = went_on y.0 (eqb-true (more_of left) 1 q) y.1
    go false q (inr y) = ended y.0 (eqb-false (more_of left) 1 q) y.1

-- a block that passes has four bytes at least, so what is left behind it is shorter
pub shorter : (turn : ℕ) (left : List ℕ) → Checked (block_checks_in turn left) 0 → length (behind left) + 4 ≤ length left
shorter turn left c = omega (arith, (linked turn left c).fits, length-drop (len left + 4) left)

-- checks of more blocks than there can be change nothing
pub run_enough : (n n' turn : ℕ) (left : List ℕ) (x : ℕ) → length left ≤ n → length left ≤ n' → Checked (run_checks n turn left) x → Checked (run_checks n' turn left) x
run_enough zero n' turn left x l l' c = elim (ℕ_discrete x 0) [
  | yes z ↦ absurd (omega (arith, shorter turn left (subst (Checked (block_checks_in turn left)) z c)))
  | no h ↦ run-refused turn left n' x c h
]
run_enough (suc n) n' turn left x l l' c = go (block_seen turn left n x c) n' l' (run_enough n)
  where
    go : BlockSeen turn left n x → (n' : ℕ) → length left ≤ n'
        → ((n' turn : ℕ) (left : List ℕ) (x : ℕ) → length left ≤ n → length left ≤ n' → Checked (run_checks n turn left) x → Checked (run_checks n' turn left) x)
        → Checked (run_checks n' turn left) x
    go (refused c h) n' l' ih = run-refused turn left n' x c h
    go (ended c h z) n' l' ih = subst (Checked (run_checks n' turn left)) (sym z) (run_ends turn left n' c h)
    go (went_on c e r) zero l' ih = absurd (omega (arith, shorter turn left c))
    go (went_on c e r) (suc n') l' ih =
        run_goes_on turn left n' x c e (ih n' (1 - turn) (behind left) x (omega (arith, shorter turn left c)) (omega (arith, shorter turn left c)) r)

-- so with M the rest decides, whatever its length
pub rest_goes_on : (turn : ℕ) (left : List ℕ) (x : ℕ) → Checked (block_checks_in turn left) 0 → more_of left ≡ 1 → Checked (rest_checks (1 - turn) (behind left)) x → Checked (rest_checks turn left) x
rest_goes_on turn left x c e r = go (length left) refl
  where
    s : length (behind left) + 4 ≤ length left
    s = shorter turn left c

    go : (n : ℕ) → length left ≡ n → Checked (run_checks n turn left) x
    go zero q = absurd (omega (arith, s))
    go (suc n) q = run_goes_on turn left n x c e (run_enough (length (behind left)) n (1 - turn) (behind left) x (omega arith) (omega (arith, s)) r)

-- ---- runs and checks

run_long : {turn : ℕ} {run info : List ℕ} → BlockRun turn run info → 4 ≤ length run
run_long (last b) = omega (arith, (iblock_formed b).exact)
run_long (chained {rest = rest} b r) = omega (arith, (starts_with b rest).length_is)

-- behind a block with M, in turn, what comes decides
pub behind_decides : {block : List ℕ} {turn : ℕ} {info : List ℕ} → IBlock block turn 1 info → (rest : List ℕ) → 0 < length rest → (x : ℕ) → Checked (rest_checks (1 - turn) rest) x
    → Checked (rest_checks turn (block ++ rest)) x
behind_decides {block} {turn} b rest some x c =
    let w = starts_with b rest in
    rest_goes_on turn (block ++ rest) x (linked_passes turn (block ++ rest) (link b rest (λ e. some) (λ e. absurd (omega arith)))) w.more_is
    (subst (λ y. Checked (rest_checks (1 - turn) y) x) (sym w.behind_is) c)

-- a run refuses nothing
pub run_passes : {turn : ℕ} {run info : List ℕ} → BlockRun turn run info → Checked (rest_checks turn run) 0
run_passes {turn} {run} (last {block = block} b) =
    subst (λ x. Checked (rest_checks turn x) 0) (append-nil block)
    (run_ends turn (block ++ []) (length (block ++ [])) (linked_passes turn (block ++ []) (link b [] (λ e. absurd (omega arith)) (λ e. refl))) (λ e. omega (arith, (starts_with b []).more_is)))
run_passes (chained {rest = rest} b r) = behind_decides b rest (omega (arith, run_long r)) 0 (run_passes r)

-- and bytes that refuse nothing are a run
passes_run : (n turn : ℕ) (left : List ℕ) → length left ≤ n → Bytes left → Checked (run_checks n turn left) 0 → (info : List ℕ) × BlockRun turn left info
passes_run zero turn left l b c = absurd (omega (arith, shorter turn left c))
passes_run (suc n) turn left l b c = go (block_seen turn left n 0 c) (passes_run n (1 - turn) (behind left))
  where
    go : BlockSeen turn left n 0
        → (length (behind left) ≤ n → Bytes (behind left) → Checked (run_checks n (1 - turn) (behind left)) 0 → (info : List ℕ) × BlockRun (1 - turn) (behind left) info)
        → (info : List ℕ) × BlockRun turn left info
    go (refused c h) ih = absurd (h refl)
    go (ended c h z) ih = (information (first left), run_last turn left b (linked turn left c) (omega (arith, h)))
    go (went_on c e r) ih =
        let w = ih (omega (arith, shorter turn left c)) (bytes_drop left b (len left + 4)) r in
        (information (first left) ++ w.0, run_more turn left b (linked turn left c) e w.1)

pub passed_run : (turn : ℕ) (left : List ℕ) → Bytes left → Checked (rest_checks turn left) 0 → (info : List ℕ) × BlockRun turn left info
passed_run turn left b c = passes_run (length left) turn left (omega arith) b c

-- what a run carries is told by its bytes
once : {turn turn' : ℕ} {run run' info info' : List ℕ} → BlockRun turn run info → BlockRun turn' run' info' → run ≡ run' → info ≡ info'
once (last b) (last b') e = (carried b).info_is ∙ ap information e ∙ sym (carried b').info_is
once (last b) (chained {rest = rest} b' r') e = absurd (omega (arith, (carried b).more_is, ap more_of e, (starts_with b' rest).more_is))
once (chained {rest = rest} b r) (last b') e = absurd (omega (arith, (carried b').more_is, ap more_of e, (starts_with b rest).more_is))
once (chained {rest = rest} b r) (chained {rest = rest'} b' r') e =
    ap₂ (λ x y. x ++ y) (sym (starts_with b rest).information_is ∙ ap information e ∙ (starts_with b' rest').information_is)
    (once r r' (sym (starts_with b rest).behind_is ∙ ap behind e ∙ (starts_with b' rest').behind_is))

pub run_once : {turn turn' : ℕ} {run info info' : List ℕ} → BlockRun turn run info → BlockRun turn' run info' → info ≡ info'
run_once r r' = once r r' refl
