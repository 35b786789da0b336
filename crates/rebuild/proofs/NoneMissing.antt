-- With no source missing none of 8, 9 and 10 occurs, and the count is 0. Assumes nothing.
use mathlib.Core.Path.{◌≡◌, refl, sym, ap, ap₂, ◌∙◌}
use mathlib.Core.Logic.{inr}
use mathlib.Core.Bool.{Bool, true, false, true≢false}
use mathlib.Core.List.{List, [], ◌++◌}
use Prim.Native.Nat.{ℕ, zero, suc, ◌+◌, ◌*◌, ◌≤◌, ◌<◌}
use native.Mathlib.Omega.{arith}
use native.Mathlib.Numerals.{add-one}
use native.Mathlib.Decide.{ℕ_discrete, dec_lt}
use lib.ListN.{length}
use Rattle.bits.specs.Sums.{sum, count}
use Rattle.bits.specs.Bits.{bit_at, Bytes, slice, part}
use Rattle.bits.proofs.SumLaws.{count_add, count_in, count_grows}
use Rattle.table.specs.Desk.{Desk, desk, mark, sources_bytes, survivors_bytes, place_of}
use Rattle.table.specs.Checks.{Checked, marks_checks, marked_checks}
use Rattle.table.proofs.CheckLaws.{numbered_by, below_by, checked_once, passed, from_later, counted, none_above, lengths_exact}
use Rattle.table.proofs.AnswerLaws.{answer_passes}
use Rattle.table.proofs.ShapeLaws.{marked_parts}
use Rattle.table.proofs.PacketLaws.{place_none, place_on, place_skip, source_packet_bytes}
use Rattle.code.specs.Code.{sources_of, Short}
use Rattle.code.proofs.CodeLaws.{desk_short, list_source}
use Rattle.walk.specs.Walk.{done}
use Rattle.walk.specs.Ends.{Finishes}
use Rattle.walk.proofs.Ends.{finishes_ends, one_count}
use Rattle.survivors.specs.Packets.{came, EncodesTo}
use Rattle.survivors.proofs.CameLaws.{bits_encode, encoded_not_stray}
use Rattle.rebuild.specs.Stages.{decode_checks, rebuild_lengths_checks, rebuild_lent_checks}
use Rattle.rebuild.specs.Promise.{rebuild_checks, Rebuilt}

pub count-all : (n : ℕ) (p : ℕ → Bool) → ((i : ℕ) → i < n → p i ≡ true) → count n p ≡ n
unfolding sum
count-all zero p h = refl
count-all (suc n) p h = count_in n p (h n (omega arith)) ∙ ap suc (count-all n p (λ i l. h i (omega arith)))

count_none : (n : ℕ) (p : ℕ → Bool) → count n p ≡ 0 → (i : ℕ) → i < n → p i ≡ false
count_none n p z i l = go (p i) refl
  where
    go : (v : Bool) → p i ≡ v → v ≡ false
    go false e = refl
    go true e = absurd (omega (arith, count_in i p e, count_grows p (suc i) n (omega arith)))

-- where exactly k packets are at hand and the sources are among them, no parity is
pub sources_alone : (k m marks : ℕ)
    → ((c : ℕ) → c < k → mark marks c ≡ true)
    → count (k + m) (mark marks) ≡ k
    → ((i : ℕ) → k + m ≤ i → mark marks i ≡ true → ⊥)
    → (a : ℕ)
    → mark marks (k + a) ≡ false
sources_alone k m marks here all none a = elim (dec_lt a m) [
  | yes l ↦ count_none m (λ i. mark marks (k + i)) (omega (arith, count_add (mark marks) k m, all, count-all k (mark marks) here)) a l
  | no l ↦ go (mark marks (k + a)) refl (omega arith)
]
  where
    go : (v : Bool) → mark marks (k + a) ≡ v → k + m ≤ k + a → v ≡ false
    go false e q = refl
    go true e q = absurd (none (k + a) q e)

module _ (D : Desk) (here : (c : ℕ) → c < D.k → D.present c ≡ true) (no_parity : (a : ℕ) → D.present (D.k + a) ≡ false) where
  open D use {k, m, bits, bytes, present}

  place-source : (c : ℕ) → c ≤ k → place_of D present c ≡ c * bytes
  place-source zero l = sym (place_none D present) ∙ omega arith
  place-source (suc c) l =
      ap (place_of D present) (sym (add-one c)) ∙ sym (place_on D present c (here c (omega arith)))
      ∙ omega (arith, place-source c (omega arith), source_packet_bytes D c (omega arith))

  -- the packets take as many bytes as the sources
  pub place-all : survivors_bytes D ≡ sources_bytes D
  place-all = sym (place_skip D present k m (λ a _. no_parity a)) ∙ place-source k (omega arith)

  -- nothing is to be uncovered
  pub finishes_at_once : Finishes D 0
  finishes_at_once = record {
    end = λ c. 0;
    reached = record { order = []; run = done; counted = refl };
    whole = λ b gb. absurd (true≢false (sym (here b gb.0) ∙ gb.1));
  }

  module _ (packets : List ℕ) where
    is_source : (c : ℕ) → c < k → came D packets c ≡ part packets bytes c
    is_source c l = ap₂ (slice packets) (place-source c (omega arith)) (sym (source_packet_bytes D c l))

    -- the packets are the sources
    pub own_sources : Short D packets → Bytes packets → length packets ≡ survivors_bytes D → EncodesTo D packets packets
    unfolding sources_of
    own_sources short hp len = bits_encode D packets packets short (λ c p. bit_at (came D packets c) p) (λ c p _ _. refl) hp len (len ∙ place-all) hp record {
      source = list_source D packets short;
      kept = λ c p l _. ap (λ (xs : List ℕ). bit_at xs p) (is_source c l);
      made = λ a q h. absurd (true≢false (sym h.1 ∙ no_parity a));
    }

    -- so none of 8, 9 and 10 is given
    pub nothing_refused : Short D packets → Bytes packets → length packets ≡ survivors_bytes D → Checked (decode_checks D packets) 0
    nothing_refused short hp len =
        let own = own_sources short hp len in
        inr ((λ n. n 0 finishes_at_once), inr (encoded_not_stray D packets packets short own, inr ((λ n. n packets own), refl)))

module _ (k m l : ℕ) (table : List ℕ) (marks : ℕ) (packets : List ℕ) (here : (c : ℕ) → c < k → mark marks c ≡ true) where
  abbrev D : Desk
  D = desk k m l table marks

  -- the marks are all the sources'
  no_parity : Checked (marks_checks k m marks) 0 → (a : ℕ) → mark marks (k + a) ≡ false
  no_parity c = sources_alone k m marks here (counted k m marks c) (none_above k m marks c)

  pub none_refused : Bytes packets → Checked (marks_checks k m marks) 0 → length packets ≡ survivors_bytes D → Checked (decode_checks D packets) 0
  none_refused hp c len = nothing_refused D here (no_parity c) packets (desk_short k m l table marks packets) hp len

  -- rebuild: no number from 8 to 10, and no step
  pub none_missing_rebuilt : Bytes packets → (before : List ℕ) (number count : ℕ) (after : List ℕ) → Rebuilt k m l table marks packets before number count after → (number < 8) × (count ≡ 0)
  none_missing_rebuilt hp before number count after R = (below, no_step)
    where
      front : Checked (marked_checks k m l table marks ++ rebuild_lengths_checks D packets before) 0 → Checked (marks_checks k m marks) 0 × (length packets ≡ survivors_bytes D)
      front c =
          let p = passed (marked_checks k m l table marks) (rebuild_lengths_checks D packets before) (numbered_by (marked_checks k m l table marks) refl) c in
          ((marked_parts k m l table marks p.0).1, (lengths_exact (survivors_bytes D) (sources_bytes D) packets before p.1).0)

      late : 8 ≤ number → ⊥
      late h =
          let early = marked_checks k m l table marks ++ rebuild_lengths_checks D packets before in
          let w = from_later 8 early (decode_checks D packets) number h (below_by 8 early refl) R.numbered in
          let f = front w.0 in
          omega (arith, checked_once (decode_checks D packets) number 0 w.1 (none_refused hp f.0 f.1))

      below : number < 8
      below = elim (dec_lt number 8) [ yes h ↦ h | no h ↦ absurd (late (omega arith)) ]

      no_step : count ≡ 0
      no_step = elim (ℕ_discrete number 0) [
        | no n ↦ (R.refused n).1.1 (λ e. omega (arith, below))
        | yes z ↦
            let cs = marked_checks k m l table marks in
            let all = answer_passes (rebuild_checks k m l table marks packets before) number z R in
            let c = marked_parts k m l table marks (passed cs (rebuild_lent_checks D packets before) (numbered_by cs refl) all).0 in
            one_count D count 0 (finishes_ends D count (R.done z).0) (finishes_ends D 0 (finishes_at_once D here (no_parity c.1)))
      ]
