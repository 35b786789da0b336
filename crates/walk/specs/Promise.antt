-- What the calls walk and next step promise.
use Rattle.std.specs.Prelude.{◌≡◌, List, ◌++◌, ℕ, length}
use Rattle.bits.specs.Sums.{at}
use Rattle.table.specs.Limits.{max_k, noughts}
use Rattle.table.specs.Desk.{Desk, desk}
use Rattle.table.specs.Checks.{Checks, Answered, Flag, marked_checks, progress_checks}
use Rattle.walk.specs.Walk.{Stuck, Whole, Next}
use Rattle.walk.specs.Ends.{Reaches}

-- 1 2 3 6 7 17
abbrev pub step_checks : ℕ → ℕ → ℕ → List ℕ → ℕ → List ℕ → Checks
step_checks k m l table marks progress = marked_checks k m l table marks ++ progress_checks k l marks progress

-- Next step: its number; refused, noughts; else the lowest bare pair and the progress after it.
abbrev pub Stepped : ℕ → ℕ → ℕ → List ℕ → ℕ → List ℕ → ℕ → ℕ → ℕ → List ℕ → Type 0
Stepped k m l table marks progress number parity source after =
    Answered (step_checks k m l table marks progress) number ((parity ≡ 0) × (source ≡ 0) × (after ≡ noughts))
    (Next (desk k m l table marks) progress parity source after)

-- so many steps from nothing to this progress, where none is left; and whether every missing source is whole
pub record Finished (D : Desk) (count whole : ℕ) (progress : List ℕ) : Type 0 where
  pub reached : Reaches D count (at progress)
  pub stuck : Stuck D (at progress)
  pub size : length progress ≡ max_k
  pub flagged : Flag (Whole D (at progress)) whole

-- Walk: its number; refused, noughts; else the end of an order of steps.
abbrev pub Walked : ℕ → ℕ → ℕ → List ℕ → ℕ → ℕ → ℕ → ℕ → List ℕ → Type 0
Walked k m l table marks number count whole progress =
    Answered (marked_checks k m l table marks) number ((count ≡ 0) × (whole ≡ 0) × (progress ≡ noughts))
    (Finished (desk k m l table marks) count whole progress)
