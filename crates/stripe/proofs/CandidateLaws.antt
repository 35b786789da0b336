-- One stripe from its only candidate: 9, 10 or done. Assumes nothing.
use mathlib.Core.Path.{◌≡◌, refl, sym, ap, ◌∙◌, subst}
use mathlib.Core.Logic.{inl, inr}
use mathlib.Core.List.{List, [], ◌++◌, append-nil}
use Prim.Native.Nat.{ℕ, ◌≤◌}
use native.Mathlib.Omega.{arith}
use lib.ListN.{length, drop, drop_of_length-le}
use Rattle.bits.specs.Bits.{Bytes}
use Rattle.table.specs.Desk.{Desk, sources_bytes}
use Rattle.code.specs.Code.{survivors_of}
use Rattle.walk.specs.Ends.{Finishes}
use Rattle.survivors.specs.Packets.{Stray, EncodesTo}
use Rattle.rebuild.specs.Stages.{RebuildMade}
use Rattle.rebuild.proofs.AnswerLaws.{untold}

-- one stripe whose missing sources are finished by so many steps
module _ (D : Desk) (packets before : List ℕ) (count : ℕ) (F : Finishes D count) where
  -- 9
  pub candidate_stray : (number none : ℕ) → number ≡ 9 → none ≡ 0 → Stray D packets → RebuildMade D packets before number none before
  candidate_stray number none e f t = record {
    numbered = inr ((λ n. n count F), inl (t, e));
    refused = λ _. (refl, untold D number none (λ z. omega arith) f);
    done = λ z. absurd (omega arith);
  }

  -- and which only these sources may encode to
  module _ (t : Stray D packets → ⊥) (sources : List ℕ) where
    -- 10
    pub candidate_foreign : (number none : ℕ) → number ≡ 10 → none ≡ 0 → ((x : List ℕ) → EncodesTo D packets x → x ≡ sources) → (packets ≡ survivors_of D sources → ⊥)
        → RebuildMade D packets before number none before
    candidate_foreign number none e f only other = record {
      numbered = inr ((λ n. n count F), inr (t, inl ((λ x X. other (subst (λ y. packets ≡ survivors_of D y) (only x X) X.same)), e)));
      refused = λ _. (refl, untold D number none (λ z. omega arith) f);
      done = λ z. absurd (omega arith);
    }

    -- 0
    pub candidate_done : length before ≡ sources_bytes D → length sources ≡ sources_bytes D → Bytes sources → packets ≡ survivors_of D sources
        → RebuildMade D packets before 0 count (sources ++ drop (length sources) before)
    candidate_done room size are same =
        let all : length before ≤ length sources = omega arith in
        let full : drop (length sources) before ≡ [] = drop_of_length-le before all in
        let e : sources ++ drop (length sources) before ≡ sources = ap (λ xs. sources ++ xs) full ∙ append-nil sources in
        let X : EncodesTo D packets sources = record { size = size; are_bytes = are; same = same } in
        record {
          numbered = inr ((λ n. n count F), inr (t, inr ((λ n. n sources X), refl)));
          refused = λ n. absurd (n refl);
          done = λ _. (F, subst (EncodesTo D packets) (sym e) X);
        }
