-- From what the data half gives to the numbers 8, 9 and 10. Assumes nothing.
use mathlib.Core.Path.{◌≡◌, refl, sym, ap, ◌∙◌, subst}
use mathlib.Core.Logic.{inl, inr}
use mathlib.Core.Bool.{Bool, true, false}
use mathlib.Core.List.{List, ◌++◌}
use Prim.Native.Nat.{ℕ}
use native.Mathlib.Omega.{arith}
use lib.ListN.{length}
use lib.Seq.{take_all}
use Rattle.std.specs.Prelude.{Result, Ok, Err}
use Rattle.std.specs.Result.{IsErrAnd}
use Rattle.table.specs.Desk.{Desk, sources_bytes}
use Rattle.table.specs.Checks.{Checks, Checked, Answered}
use Rattle.table.specs.Refusals.{number_of}
use Rattle.table.specs.declared.refusals.Refusal.{Refusal}
use Rattle.table.proofs.CheckLaws.{Below, checked_below}
use Rattle.table.proofs.AnswerLaws.{answer_stops}
use Rattle.table.proofs.RefusalLaws.{numbered}
use Rattle.walk.specs.Ends.{Finishes}
use Rattle.walk.proofs.Ends.{ended_finishes, finishes_ended}
use Rattle.survivors.specs.Packets.{Stray, EncodesTo}
use Rattle.decode.specs.Data.{ReadBack}
use Rattle.rebuild.specs.Parts.{rebuild_number, rebuild_count}
use Rattle.rebuild.specs.declared.Unread.{Unread}
use Rattle.rebuild.specs.Stages.{StepsTold, SourcesFound, Recovered, RebuildMade}

-- a number that is not 8 tells no steps
pub untold : (D : Desk) (number count : ℕ) → (number ≡ 8 → ⊥) → count ≡ 0 → StepsTold D number count
untold D number count n z = ((λ e. absurd (n e)), λ _. z)

-- refused with its shape: no step is told
pub unread_stops : (D : Desk) (cs ds : Checks) (e : Refusal) (r : Result ℕ Unread) {P Done : Type 0} → Below 8 cs → Checked cs (number_of e)
    → IsErrAnd r (λ u. (u.refusal ≡ e) × (u.count ≡ 0)) → P → Answered (cs ++ ds) (rebuild_number r) (P × StepsTold D (rebuild_number r) (rebuild_count r)) Done
unread_stops D cs ds e (Ok n) b c x p = absurd x
unread_stops D cs ds e (Err u) b c x p =
    let n = ap number_of x.0 in
    answer_stops cs ds (number_of e) (number_of u.refusal) c (numbered e) n
    (p, untold D (number_of u.refusal) u.count (λ z. omega (arith, n, checked_below 8 cs (number_of e) (omega arith) b c)) x.1)

-- refused, the output keeps its bytes; done, it is the sources
pub made_refused : (D : Desk) (packets before : List ℕ) (number count : ℕ) (x : List ℕ) → (number ≡ 0 → ⊥)
    → Recovered D packets number count x → RebuildMade D packets before number count before
made_refused D packets before number count x n R = record { numbered = R.numbered; refused = λ h. (refl, R.refused h); done = λ z. absurd (n z) }

pub made_done : (D : Desk) (packets before : List ℕ) (number count : ℕ) (x after : List ℕ) → number ≡ 0 → after ≡ x
    → Recovered D packets number count x → RebuildMade D packets before number count after
made_done D packets before number count x after z e R = record { numbered = R.numbered; refused = λ n. absurd (n z); done = λ z. subst (SourcesFound D packets count) (sym e) (R.done z) }

module _ {D : Desk} {packets : List ℕ} {count : ℕ} {whole consistent : Bool} {sources : List ℕ} (B : ReadBack D packets count whole consistent sources) where
  -- 8: the steps made
  pub recovered_stalled : (x : List ℕ) → whole ≡ false → Recovered D packets 8 count x
  recovered_stalled x w = record {
    numbered = inl ((λ n F. B.full.not_so w (finishes_ended D count n B.ended F)), refl);
    refused = λ _. ((λ _. B.ended), λ n. absurd (n refl));
    done = λ z. absurd (omega arith);
  }

  module _ (w : whole ≡ true) where
    finishes : Finishes D count
    finishes = ended_finishes D count B.ended (B.full.so w)

    -- 9
    pub recovered_stray : (number none : ℕ) (x : List ℕ) → number ≡ 9 → none ≡ 0 → Stray D packets → Recovered D packets number none x
    recovered_stray number none x e f t = record {
      numbered = inr ((λ n. n count finishes), inl (t, e));
      refused = λ _. untold D number none (λ z. omega arith) f;
      done = λ z. absurd (omega arith);
    }

    module _ (t : Stray D packets → ⊥) where
      -- 10
      pub recovered_foreign : (number none : ℕ) (x : List ℕ) → number ≡ 10 → none ≡ 0 → consistent ≡ false → Recovered D packets number none x
      recovered_foreign number none x e f c = record {
        numbered = inr ((λ n. n count finishes), inr (t, inl ((λ y Y. (B.some w).not_so c (y, Y)), e)));
        refused = λ _. untold D number none (λ z. omega arith) f;
        done = λ z. absurd (omega arith);
      }

      -- 0: the steps that finish all missing sources, and the sources
      pub recovered_done : length sources ≡ sources_bytes D → consistent ≡ true → Recovered D packets 0 count sources
      recovered_done size c =
          let found = (B.some w).so c in
          let these = B.these w found.0 found.1 ∙ take_all (sources_bytes D) sources (omega arith) in
          let X : EncodesTo D packets sources = subst (EncodesTo D packets) these found.1 in
          record {
            numbered = inr ((λ n. n count finishes), inr (t, inr ((λ n. n sources X), refl)));
            refused = λ n. absurd (n refl);
            done = λ _. (finishes, X);
          }
