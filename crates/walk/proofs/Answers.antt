-- The answer of an accepted walk, computed, and that it meets the promise: for examples. Assumes nothing.
use mathlib.Core.Path.{refl, sym, subst}
use Rattle.std.specs.Int.{from_bool}
use mathlib.Core.List.{List}
use Prim.Native.Nat.{ℕ, ◌*◌, ◌≤◌}
use native.Mathlib.Omega.{arith}
use native.Mathlib.Nat.{mul-le-mul_left}
use lib.ListN.{length}
use Rattle.bits.specs.Sums.{at, count}
use Rattle.bits.proofs.SumLaws.{count_not}
use Rattle.table.specs.Limits.{max_k, noughts}
use Rattle.table.specs.Desk.{Desk, desk}
use Rattle.table.specs.Checks.{Checked, marked_checks}
use Rattle.walk.specs.Walk.{Run, Fits}
use Rattle.walk.specs.Compute.{whole_b, walk_from}
use Rattle.walk.specs.Promise.{Finished, Walked}
use Rattle.walk.proofs.Runs.{run_fits}
use Rattle.walk.proofs.Totals.{all, gone}
use Rattle.walk.proofs.Computed.{walk_ends, flagged}
use Rattle.walk.proofs.Reached.{at-noughts, run_reaches}
use Rattle.table.proofs.AnswerLaws.{answer_done}
use Rattle.table.proofs.ShapeLaws.{shaped, marked_parts}

pub record Answer : Type 0 where
  pub count : ℕ
  pub whole : ℕ
  pub progress : List ℕ

-- the answer of the walk over a desk, with number 0
unfoldable pub answer_of : Desk → Answer
answer_of D =
    let r = walk_from D (D.bits * D.k) noughts in
    record { count = length r.0; whole = from_bool (whole_b D (at r.1)); progress = r.1 }

module _ (D : Desk) where
  fits_noughts : Fits D (at noughts)
  fits_noughts = subst (λ (g : ℕ → ℕ). Fits D g) at-noughts (λ b. omega arith)

  enough : all D ≤ D.bits * D.k
  enough =
      let h : count D.k (gone D) ≤ D.k = omega (arith, count_not D.k D.present) in
      mul-le-mul_left D.bits h

  finished : D.k ≤ max_k → Finished D (answer_of D).count (answer_of D).whole (answer_of D).progress
  unfolding answer_of
  finished kl =
      let w = walk_from D (D.bits * D.k) noughts in
      let r = walk_ends D (D.bits * D.k) noughts kl fits_noughts (omega (arith, enough)) in
      record {
        reached = run_reaches D (subst (λ (g : ℕ → ℕ). Run D g w.0 (at w.1)) (sym at-noughts) r.0);
        stuck = r.1;
        size = r.2;
        flagged = flagged D (at w.1) (run_fits D r.0 fits_noughts) _ refl;
      }

abbrev pub Meets : ℕ → ℕ → ℕ → List ℕ → ℕ → Answer → Type 0
Meets k m l table marks r = Walked k m l table marks 0 r.count r.whole r.progress

-- where the call is accepted, the computed answer meets the promise
pub answer_meets : (k m l : ℕ) (table : List ℕ) (marks : ℕ) → Checked (marked_checks k m l table marks) 0 → Meets k m l table marks (answer_of (desk k m l table marks))
answer_meets k m l table marks x =
    answer_done (marked_checks k m l table marks) 0 x refl (finished (desk k m l table marks) (shaped k m l table (marked_parts k m l table marks x).0).k_high)
