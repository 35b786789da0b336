-- The answer of rebuild, tested by computing, and that it meets the promise: for examples. Assumes nothing.
use mathlib.Core.Path.{◌≡◌, refl, sym, ap, ◌∙◌, subst}
use mathlib.Core.Logic.{inl, inr}
use mathlib.Core.Bool.{Bool, true, false, cond, not, ◌&&◌, ◌||◌, true≢false, and-eq-true_iff}
use mathlib.Core.List.{List, [], ◌∷◌, ◌++◌}
use Prim.Native.Nat.{ℕ, zero, suc, ◌+◌, ◌*◌, ◌≤◌, ◌<◌}
use native.Mathlib.Omega.{arith}
use native.Mathlib.Decide.{dec_lt}
use lib.Dec.{eqb, ltb, lit<}
use borrow.Author.Tests.{ltb-true, le-ltb, ne_eqb, eq-eqb}
use lib.ListN.{length}
use Rattle.bits.specs.Sums.{at, all_b}
use Rattle.bits.specs.Bits.{bit_at, Bytes}
use Rattle.bits.proofs.SumLaws.{all-at}
use Rattle.table.specs.Limits.{max_k, noughts}
use Rattle.table.specs.Desk.{Desk, desk, sources_bytes, survivors_bytes, packet_bits, packet_bytes, place_of}
use Rattle.table.specs.Checks.{Checked, marked_checks, input_checks, output_checks}
use Rattle.table.proofs.CheckLaws.{numbered_by, goes, exactly_long}
use Rattle.table.proofs.AnswerLaws.{answer_goes}
use Rattle.table.proofs.ShapeLaws.{shaped, marked_parts}
use Rattle.table.proofs.Taken.{taken_b, taken_checked}
use Rattle.code.specs.Code.{Bits, sources_of, parity, survivors_of, Short}
use Rattle.bits.proofs.SliceLaws.{slice_past}
use Rattle.code.proofs.CodeLaws.{desk_short}
use Rattle.walk.specs.Walk.{Order, Stuck, Run, Fits, Whole}
use Rattle.walk.specs.Read.{read_by, read_along}
use Rattle.walk.specs.Compute.{whole_b, walk_from}
use Rattle.walk.proofs.Runs.{run_fits}
use Rattle.walk.proofs.Totals.{all_most}
use Rattle.walk.proofs.Computed.{walk_ends, whole_of, of_whole}
use Rattle.walk.proofs.Reached.{at-noughts}
use Rattle.walk.proofs.ReadLaws.{parity_same, read-along, only}
use Rattle.walk.specs.Ends.{Ended, Finishes}
use Rattle.survivors.specs.Packets.{came, Stray, EncodesTo, came_parity}
use Rattle.survivors.proofs.CameLaws.{encodes_bits, encoded_not_stray}
use Rattle.rebuild.specs.Stages.{decode_checks, rebuild_lent_checks, RebuildMade}
use Rattle.rebuild.specs.Promise.{Rebuilt}
use Rattle.walk.proofs.Ends.{finishes_ended, ended_finishes}

-- each element is a byte
unfoldable pub bytes_b : List ℕ → Bool
bytes_b [] = true
bytes_b (x ∷ xs) = ltb x 256 && bytes_b xs

pub bytes_told : (xs : List ℕ) → bytes_b xs ≡ true → Bytes xs
unfolding bytes_b
bytes_told [] e i = lit< tt
bytes_told (x ∷ xs) e zero = ltb-true x 256 ((and-eq-true_iff (ltb x 256) (bytes_b xs)).0 e).0
bytes_told (x ∷ xs) e (suc i) = bytes_told xs ((and-eq-true_iff (ltb x 256) (bytes_b xs)).0 e).1 i

module _ (D : Desk) where
  open D use {k, m, bits, bytes, present}

  -- bit p of packet i is none above its last bit, or a nought
  abbrev low_or_nought_b : List ℕ → ℕ → ℕ → Bool
  low_or_nought_b packets i p = ltb p (packet_bits D i) || eqb (bit_at (came D packets i) p) 0

  -- no packet at hand has a one above its last bit
  unfoldable pub tidy_b : List ℕ → Bool
  tidy_b packets = all_b (k + m) (λ i. not (present i) || all_b (8 * packet_bytes D i) (low_or_nought_b packets i))

  or_right : (v w : Bool) → (v || w) ≡ true → v ≡ false → w ≡ true
  or_right false w e f = e
  or_right true w e f = absurd (true≢false f)

  tidy_told : (packets : List ℕ) → tidy_b packets ≡ true → Stray D packets → ⊥
  unfolding tidy_b
  tidy_told packets e (i, l, on, (p, lp, one)) = elim (dec_lt p (8 * packet_bytes D i)) [
    | no q ↦ omega (arith, slice_past packets (place_of D present i) (packet_bytes D i) p (omega arith))
    | yes q ↦ true≢false (sym (nought q) ∙ ne_eqb (bit_at (came D packets i) p) 0 (λ z. omega arith))
  ]
    where
      nought : p < 8 * packet_bytes D i → eqb (bit_at (came D packets i) p) 0 ≡ true
      nought q =
          let tidy : all_b (8 * packet_bytes D i) (low_or_nought_b packets i) ≡ true = or_right (not (present i)) _ (all-at (k + m) _ e i l) (ap not on) in
          or_right (ltb p (packet_bits D i)) _ (all-at (8 * packet_bytes D i) (low_or_nought_b packets i) tidy p q) (le-ltb p (packet_bits D i) lp)

  -- the order of the walk, how many steps it has, and where it ends
  abbrev walked : Order × List ℕ
  walked = walk_from D (bits * k) noughts

  abbrev pub steps : ℕ
  steps = length walked.0

  abbrev pub reached : ℕ → ℕ
  reached = at walked.1

  module _ (few : k ≤ max_k) where
    walk_run : Run D (λ c. 0) walked.0 reached × Stuck D reached
    walk_run =
        let fit : Fits D (at noughts) = subst (λ (g : ℕ → ℕ). Fits D g) at-noughts (λ b. omega arith) in
        let r = walk_ends D (bits * k) noughts few fit (omega (arith, all_most D bits k (omega arith) (omega arith))) in
        (subst (λ (g : ℕ → ℕ). Run D g walked.0 reached) (sym at-noughts) r.0, r.1)

    walk_whole : whole_b D reached ≡ true → Whole D reached
    walk_whole e = whole_of D reached (run_fits D walk_run.0 (λ b. omega arith)) e

    abbrev walk_ended : Ended D steps
    walk_ended = record { end = reached; reached = record { order = walked.0; run = walk_run.0; counted = refl }; stuck = walk_run.1 }

    walk_finishes : whole_b D reached ≡ true → Finishes D steps
    walk_finishes e = ended_finishes D steps walk_ended (walk_whole e)

    walk_stalls : whole_b D reached ≡ false → (n : ℕ) → Finishes D n → ⊥
    walk_stalls e n F = true≢false (sym (of_whole D reached (finishes_ended D steps n walk_ended F)) ∙ e)

  module _ (packets : List ℕ) where
    -- the present sources as they came, and blanks
    abbrev came_in : Bits
    came_in c p = cond (present c) (bit_at (came D packets c) p) 0

    -- what the walk reads
    abbrev walk_read : Bits
    walk_read = read_along D (came_parity D packets) walked.0 (λ c. 0) came_in

    -- what was read does not encode to parity a at bit q: then no sources encode to the packets
    nothing_encodes : ((x : List ℕ) → Short D x) → k ≤ max_k → whole_b D reached ≡ true → (a q : ℕ) → a < m → present (k + a) ≡ true
        → eqb (came_parity D packets a q) (parity D walk_read a q) ≡ false → (x : List ℕ) → EncodesTo D packets x → ⊥
    nothing_encodes short few e a q la on differs x X =
        let r = came_parity D packets in
        let u = (walk_run few).0 in
        let E = encodes_bits D packets x (short x) came_in (λ c p _ f. rw f) X in
        let same = only D r came_in (λ c p gc. rw gc.1) u (walk_whole few e) (sources_of D x) E in
        let reads = ap (λ (f : Bits). parity D f a q) (read-along D r u came_in) in
        true≢false (sym (eq-eqb _ _ (E.made a q (la, on) ∙ sym (parity_same D (read_by D r u came_in) (sources_of D x) same a q) ∙ reads)) ∙ differs)

    -- what is computed of an accepted rebuild: that the walk stalls; else that a packet has a one above its last bit, or that a parity at hand differs from what was read, or the sources
    pub data Outcome (before : List ℕ) : ℕ → ℕ → List ℕ → Type 0 where
      stalls : whole_b D reached ≡ false → Outcome before 8 steps before
      strays : whole_b D reached ≡ true → Stray D packets → Outcome before 9 0 before
      differs : whole_b D reached ≡ true → tidy_b packets ≡ true → (a q : ℕ) → a < m → present (k + a) ≡ true
          → eqb (came_parity D packets a q) (parity D walk_read a q) ≡ false → Outcome before 10 0 before
      reads : {x : List ℕ} → whole_b D reached ≡ true → length x ≡ sources_bytes D → bytes_b x ≡ true → packets ≡ survivors_of D x → Outcome before 0 steps x

module _ (k m l : ℕ) (table : List ℕ) (marks : ℕ) (packets before : List ℕ) where
  abbrev D : Desk
  D = desk k m l table marks

  -- the call is accepted, and what it lends has its length
  pub record Lent : Type 0 where
    pub taken : taken_b k m l table marks ≡ true
    pub input : length packets ≡ survivors_bytes D
    pub output : length before ≡ sources_bytes D

  module _ (lent : Lent) where
    accepted : Checked (marked_checks k m l table marks) 0
    accepted = taken_checked k m l table marks lent.taken

    few : k ≤ max_k
    few = (shaped k m l table (marked_parts k m l table marks accepted).0).k_high

    -- what is left after the checks in front of 8, 9 and 10 is the call's answer
    decoded_meets : (number count : ℕ) (after : List ℕ) → RebuildMade D packets before number count after → Rebuilt k m l table marks packets before number count after
    decoded_meets number count after R =
        let input = input_checks (survivors_bytes D) packets in
        let output = output_checks (sources_bytes D) before in
        let lengths = goes input output 0 (numbered_by input refl) (exactly_long 4 (survivors_bytes D) packets lent.input) (exactly_long 5 (sources_bytes D) before lent.output) in
        let cs = marked_checks k m l table marks in
        let lent = answer_goes (input ++ output) (decode_checks D packets) number (numbered_by (input ++ output) refl) lengths R in
        answer_goes cs (rebuild_lent_checks D packets before) number (numbered_by cs refl) accepted lent

    pub outcome_meets : {number count : ℕ} {after : List ℕ} → Outcome D packets before number count after → Rebuilt k m l table marks packets before number count after
    outcome_meets (stalls e) = decoded_meets 8 (steps D) before record {
      numbered = inl (walk_stalls D few e, refl);
      refused = λ _. (refl, ((λ _. walk_ended D few), λ n. absurd (n refl)));
      done = λ z. absurd (omega arith);
    }
    outcome_meets (strays e t) = decoded_meets 9 0 before record {
      numbered = inr ((λ n. n (steps D) (walk_finishes D few e)), inl (t, refl));
      refused = λ _. (refl, ((λ z. absurd (omega arith)), λ _. refl));
      done = λ z. absurd (omega arith);
    }
    outcome_meets (differs e tidy a q la on d) = decoded_meets 10 0 before record {
      numbered = inr ((λ n. n (steps D) (walk_finishes D few e)), inr (tidy_told D packets tidy, inl (nothing_encodes D packets (desk_short k m l table marks) few e a q la on d, refl)));
      refused = λ _. (refl, ((λ z. absurd (omega arith)), λ _. refl));
      done = λ z. absurd (omega arith);
    }
    outcome_meets (reads {x} e size is-bytes same) =
        let X : EncodesTo D packets x = record { size = size; are_bytes = bytes_told x is-bytes; same = same } in
        decoded_meets 0 (steps D) x record {
          numbered = inr ((λ n. n (steps D) (walk_finishes D few e)), inr (encoded_not_stray D packets x (desk_short k m l table marks x) X, inr ((λ n. n x X), refl)));
          refused = λ n. absurd (n refl);
          done = λ _. (walk_finishes D few e, X);
        }
