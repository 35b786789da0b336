-- What the checks of a call give.
use Rattle.std.specs.Prelude.{◌≡◌, List, ℕ, Result, Ok}
use Rattle.table.specs.Desks.{Stands}
use Rattle.table.specs.Checks.{Checks, Checked}
use Rattle.table.specs.Refusals.{told}
use Rattle.table.specs.declared.desks.Desk.{Desk}
use Rattle.table.specs.declared.refusals.Refusal.{Refusal}

-- refused by its number, or accepted: the desk stands for the call's numbers, table and marks
pub record Opens (checks : Checks) (k m l : ℕ) (table : List ℕ) (marks : ℕ) (r : Result Desk Refusal) : Type 0 where
  pub numbered : Checked checks (told r)
  pub accepted : (d : Desk) → r ≡ Ok d → Stands k m l table marks d
