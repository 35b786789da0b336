-- What the call rebuild log promises.
use Rattle.std.specs.Prelude.{List, ◌++◌, ℕ}
use Rattle.table.specs.Desk.{desk}
use Rattle.table.specs.Checks.{Checks, shape_checks}
use Rattle.stripe.specs.Stripes.{LogAnswered}
use Rattle.whole_log.specs.Stages.{log_striped_checks}

-- 1 2 3 25 6 7 4 5 8 9 10
abbrev pub log_checks : ℕ → ℕ → ℕ → List ℕ → ℕ → ℕ → List ℕ → List ℕ → Checks
log_checks k m l table stripes marks packets before = shape_checks k m l table ++ log_striped_checks (desk k m l table marks) stripes packets marks before

-- Rebuild log: its number; how many stripes are good; the one count of steps; and the good stripes' sources in their parts of the output, which is else as it was.
abbrev pub LogRebuilt : ℕ → ℕ → ℕ → List ℕ → ℕ → ℕ → List ℕ → List ℕ → ℕ → ℕ → ℕ → List ℕ → Type 0
LogRebuilt k m l table stripes marks packets before number good count after =
    LogAnswered (desk k m l table marks) stripes packets (log_checks k m l table stripes marks packets before) before number good count after
