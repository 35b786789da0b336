-- The families of the code by their numbers.
use Rattle.std.specs.Prelude.{◌≡◌, ℕ, Result, Ok}
use Rattle.table.specs.Checks.{Checked, family_number_checks}
use Rattle.table.specs.Refusals.{told}
use Rattle.table.specs.declared.families.Family.{Family}
use Rattle.table.specs.declared.refusals.Refusal.{Refusal}

abbrev pub family_of : Family → ℕ
family_of Family.House = 1
family_of Family.Hankel = 2
family_of Family.Vandermonde = 3

-- refused by the number of its check, or accepted: the family has this number
pub record Named (number : ℕ) (r : Result Family Refusal) : Type 0 where
  pub numbered : Checked (family_number_checks number) (told r)
  pub accepted : (f : Family) → r ≡ Ok f → family_of f ≡ number
