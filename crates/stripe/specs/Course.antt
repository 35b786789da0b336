-- How a log is read where no step is made.
use Rattle.std.specs.Prelude.{◌≡◌, ◌⊎◌, List, ℕ}
use Rattle.table.specs.Desk.{Desk}
use Rattle.plan.specs.Plan.{Planned}
use Rattle.stripe.specs.Alone.{SourcesAlone}

-- no source is missing; or those that are, n of them, are solved for by a plan
abbrev pub Course : Desk → ℕ → ℕ → List ℕ → List ℕ → List ℕ → Type 0
Course D way n held columns rises = ((n ≡ 0) × SourcesAlone D) ⊎ Planned D way n held columns rises
