-- What the call rebuild promises.
use Rattle.std.specs.Prelude.{◌≡◌, List, ◌++◌, ℕ}
use Rattle.table.specs.Desk.{desk}
use Rattle.table.specs.Checks.{Checks, Answered, marked_checks}
use Rattle.rebuild.specs.Stages.{StepsTold, SourcesFound, rebuild_lent_checks}

-- 1 2 3 6 7 4 5 8 9 10
abbrev pub rebuild_checks : ℕ → ℕ → ℕ → List ℕ → ℕ → List ℕ → List ℕ → Checks
rebuild_checks k m l table marks packets before = marked_checks k m l table marks ++ rebuild_lent_checks (desk k m l table marks) packets before

-- Rebuild: its number; refused, the output as it was and the count 0, but with 8 the steps made before the stall;
-- else the steps that finish all missing sources, and the sources that encode to the packets.
abbrev pub Rebuilt : ℕ → ℕ → ℕ → List ℕ → ℕ → List ℕ → List ℕ → ℕ → ℕ → List ℕ → Type 0
Rebuilt k m l table marks packets before number count after =
    Answered (rebuild_checks k m l table marks packets before) number
    ((after ≡ before) × StepsTold (desk k m l table marks) number count)
    (SourcesFound (desk k m l table marks) packets count after)
