-- What the reader's and the writer's promises say of runs: a run is taken exactly when it is one and fits, and what was written is read back. Assumes nothing.
use mathlib.Core.Path.{◌≡◌, refl, sym, ap, subst, ◌∙◌}
use mathlib.Core.Logic.{◌↔◌, ◌⊎◌, inl, inr}
use mathlib.Core.List.{List, ◌++◌}
use Prim.Native.Nat.{ℕ, zero, suc, ◌-◌, ◌≤◌}
use native.Mathlib.Omega.{arith}
use native.Mathlib.Decide.{dec_le}
use lib.ListN.{length, take, drop}
use lib.Seq.{take_at}
use Rattle.text.specs.Text.{Front}
use Rattle.table.specs.Limits.{longest}
use Rattle.table.specs.Checks.{Checks, Checked}
use Rattle.table.proofs.CheckLaws.{numbered_by, checked_once, stops, goes, stops_or_goes, passed, zero_passes, passes_zero, neither}
use Rattle.table.proofs.AnswerLaws.{answer_refused, answer_done}
use Rattle.card.specs.Block.{max_information, more_of, IBlock}
use Rattle.chain.specs.Run.{BlockRun, behind, block_checks_in, run_checks, rest_checks, joined_checks, read_checks, WrongEnd, Reached, first_one, one_more, ReadingEnds}
use Rattle.chain.specs.Cut.{cut_into, write_checks}
use Rattle.chain.specs.Reading.{Fits}
use Rattle.chain.specs.Promise.{BlocksRead, BlocksWritten}
use Rattle.chain.proofs.RunLaws.{out_of_turn, wrong_end, shorter, refused, ended, went_on, block_seen, run-refused, numbered_run, run_passes, run_once}
use Rattle.chain.proofs.CutLaws.{blocks_fit, cut_is_a_run}

-- ---- the reader

-- a run that fits has this answer
pub run_answer : {run info : List ℕ} → BlockRun 0 run info → (before : List ℕ) → length info ≤ length before → BlocksRead run before 0 (length info) (info ++ drop (length info) before)
run_answer {run} {info} r before l =
    answer_done (read_checks run (length before)) 0
    (goes (rest_checks 0 run) (joined_checks run (length before)) 0 (numbered_run (length run) 0 run) (run_passes r) (inr (λ x. omega (arith, x.2, ap length (run_once x.1 r)), refl)))
    refl (info, r, refl, refl)

-- and what the blocks refuse, this
pub run-refused_answer : {run : List ℕ} {n : ℕ} → Checked (rest_checks 0 run) n → (n ≡ 0 → ⊥) → (before : List ℕ) → BlocksRead run before n 0 before
run-refused_answer {run} {n} c h before =
    answer_refused (read_checks run (length before)) n n (stops (rest_checks 0 run) (joined_checks run (length before)) n c h) h refl (refl, refl)

-- so an I-block that is out of turn at a run's start, and one that ends it wrongly
pub out_of_turn_answer : {block : List ℕ} {sequence more : ℕ} {info : List ℕ} → IBlock block sequence more info → (rest : List ℕ) → (sequence ≡ 0 → ⊥) → (before : List ℕ)
    → BlocksRead (block ++ rest) before 20 0 before
out_of_turn_answer {block} b rest h before =
    run-refused_answer (run-refused 0 (block ++ rest) (length (block ++ rest)) 20 (out_of_turn b 0 rest h) (λ z. omega arith)) (λ z. omega arith) before

pub wrong_end_answer : {block : List ℕ} {more : ℕ} {info : List ℕ} → IBlock block 0 more info → (rest : List ℕ) → WrongEnd more (length rest) → (before : List ℕ)
    → BlocksRead (block ++ rest) before 21 0 before
wrong_end_answer {block} b rest h before =
    run-refused_answer (run-refused 0 (block ++ rest) (length (block ++ rest)) 21 (wrong_end b rest h) (λ z. omega arith)) (λ z. omega arith) before

module _ (run before : List ℕ) {number count : ℕ} {after : List ℕ} (t : BlocksRead run before number count after) where
  -- a run is taken exactly when it is one and fits
  pub run_taken : (number ≡ 0) ↔ Fits run (length before)
  run_taken = (there, back)
    where
      there : number ≡ 0 → Fits run (length before)
      there z =
          let d = t.done z in
          let p = (passed (rest_checks 0 run) (joined_checks run (length before)) (numbered_run (length run) 0 run) (subst (Checked (read_checks run (length before))) z t.numbered)).1 in
          let room = (zero_passes (joined_checks run (length before)) (numbered_by (joined_checks run (length before)) refl) p).0 in
          (d.0, d.1, elim (dec_le (length d.0) (length before)) [ yes l ↦ l | no n ↦ absurd (room (d.0, d.1, omega arith)) ])

      back : Fits run (length before) → number ≡ 0
      back f = checked_once (read_checks run (length before)) number 0 t.numbered (run_answer f.1 before f.2).numbered

  -- and then the destination begins with what it carries, and goes on as it was
  pub run_given : number ≡ 0 → {info : List ℕ} → BlockRun 0 run info → (count ≡ length info) × Front before info after
  run_given z {info} r =
      let d = t.done z in
      let e = run_once d.1 r in
      (d.2 ∙ ap length e, subst (λ x. Front before x after) e d.3)

-- ---- the number of a run is decided at one of its blocks

-- a block that is reached and at which the reading ends, of which these checks and then ds give the number x
abbrev pub DecidedAt : ℕ → List ℕ → Checks → ℕ → Type 0
DecidedAt turn run ds x = (next : ℕ) × (left : List ℕ) × Reached turn run next left × ReadingEnds next left × Checked (block_checks_in next left ++ ds) x

one_block_further : {turn : ℕ} {run : List ℕ} (ds : Checks) (x : ℕ) → Checked (block_checks_in turn run) 0 → more_of run ≡ 1 → DecidedAt (1 - turn) (behind run) ds x → DecidedAt turn run ds x
one_block_further ds x c e w = (w.0, w.1, one_more c e w.2, w.3, w.4)

decided : (n turn : ℕ) (left : List ℕ) (ds : Checks) (x : ℕ) → length left ≤ n → Checked (run_checks n turn left ++ ds) x → DecidedAt turn left ds x
decided zero turn left ds x l c = (turn, left, first_one, λ p m. omega (arith, shorter turn left p), c)
decided (suc n) turn left ds x l c = go (stops_or_goes (run_checks (suc n) turn left) ds x (numbered_run (suc n) turn left) c) (decided n (1 - turn) (behind left) ds x)
  where
    go : (Checked (run_checks (suc n) turn left) x × (x ≡ 0 → ⊥)) ⊎ (Checked (run_checks (suc n) turn left) 0 × Checked ds x)
        → (length (behind left) ≤ n → Checked (run_checks n (1 - turn) (behind left) ++ ds) x → DecidedAt (1 - turn) (behind left) ds x)
        → DecidedAt turn left ds x
    go (inl y) ih = elim (block_seen turn left n x y.0) [
      | refused c h ↦ (turn, left, first_one, λ p m. h (checked_once (block_checks_in turn left) x 0 c p), stops (block_checks_in turn left) ds x c h)
      | ended c h z ↦ absurd (y.1 z)
      | went_on c e r ↦ one_block_further ds x c e (ih (omega (arith, shorter turn left c)) (stops (run_checks n (1 - turn) (behind left)) ds x r y.1))
    ]
    go (inr y) ih = elim (block_seen turn left n 0 y.0) [
      | refused c h ↦ absurd (h refl)
      | ended c h z ↦ (turn, left, first_one, λ p m. h m, goes (block_checks_in turn left) ds x (numbered_by (block_checks_in turn left) refl) c y.1)
      | went_on c e r ↦ (
          let later = goes (run_checks n (1 - turn) (behind left)) ds x (numbered_run n (1 - turn) (behind left)) r y.1 in
          one_block_further ds x c e (ih (omega (arith, shorter turn left c)) later))
    ]

pub decided_at_a_block : (run : List ℕ) (room x : ℕ) → Checked (read_checks run room) x → DecidedAt 0 run (joined_checks run room) x
decided_at_a_block run room x c = decided (length run) 0 run (joined_checks run room) x (omega arith) c

-- ---- the writer

-- a packet whose blocks fit has this answer
pub cut_answer : (packet : List ℕ) (size : ℕ) (before : List ℕ) → 1 ≤ size → size ≤ max_information → length packet ≤ longest → length (cut_into size packet) ≤ length before
    → BlocksWritten packet size before 0 (length (cut_into size packet)) (cut_into size packet ++ drop (length (cut_into size packet)) before)
cut_answer packet size before l s p r =
    answer_done (write_checks packet size (length before)) 0
    (passes_zero (write_checks packet size (length before)) (neither (λ x. omega arith) (λ x. omega arith), (λ x. omega arith, (λ x. omega arith, tt)))) refl (refl, refl)

-- reading what was written gives the packet
pub written_is_read : (packet : List ℕ) (size : ℕ) (before after : List ℕ) (count : ℕ) → BlocksWritten packet size before 0 count after
    → (room : List ℕ) → length packet ≤ length room → {number length' : ℕ} {read : List ℕ} → BlocksRead (take count after) room number length' read
    → (number ≡ 0) × (length' ≡ length packet) × Front room packet read
written_is_read packet size before after count w room l {number} {length'} {read} t =
    let d = w.done refl in
    let f = blocks_fit packet size (length before) w.numbered refl in
    let e : take count after ≡ cut_into size packet = ap (take count) d.1 ∙ take_at (cut_into size packet) _ count (sym d.0) in
    let r : BlockRun 0 (take count after) packet = subst (λ x. BlockRun 0 x packet) (sym e) (cut_is_a_run size packet f.0 f.1) in
    let z = (run_taken (take count after) room t).1 (packet, r, l) in
    let g = run_given (take count after) room t z r in
    (z, g.0, g.1)
