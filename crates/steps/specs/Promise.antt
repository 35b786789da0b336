-- What the call check steps promises.
use Rattle.std.specs.Prelude.{◌≡◌, List, [], ◌∷◌, ◌++◌, ℕ, length}
use Rattle.table.specs.Desk.{Desk, desk}
use Rattle.table.specs.Checks.{Checks, Answered, marked_checks}
use Rattle.steps.specs.Steps.{FirstBad, EndsEarly, Complete}

-- 22: the lists differ in length
abbrev pub unequal_checks : List ℕ → List ℕ → Checks
unequal_checks parities sources = (22, length parities ≡ length sources → ⊥) ∷ []

-- 23: a step is not bare when its turn comes; 24: the list ends before all missing sources are whole
abbrev pub follow_checks : Desk → List ℕ → List ℕ → Checks
follow_checks D parities sources = (23, (place : ℕ) × FirstBad D parities sources place) ∷ (24, EndsEarly D parities sources) ∷ []

-- 1 2 3 6 7 22 23 24
abbrev pub step_list_checks : ℕ → ℕ → ℕ → List ℕ → ℕ → List ℕ → List ℕ → Checks
step_list_checks k m l table marks parities sources =
    marked_checks k m l table marks ++ unequal_checks parities sources ++ follow_checks (desk k m l table marks) parities sources

-- the place told with a refusal: with 23 that of the first bad step, with 24 the list's length, else 0
pub record PlaceTold (D : Desk) (parities sources : List ℕ) (number place : ℕ) : Type 0 where
  pub bad : number ≡ 23 → FirstBad D parities sources place
  pub early : number ≡ 24 → place ≡ length parities
  pub nowhere : (number ≡ 23 → ⊥) → (number ≡ 24 → ⊥) → place ≡ 0

-- 23 and 24 of lists as long as each other: the number; refused, its place; else the list is complete, and the place 0
abbrev pub Followed : Desk → List ℕ → List ℕ → ℕ → ℕ → Type 0
Followed D parities sources number place =
    Answered (follow_checks D parities sources) number (PlaceTold D parities sources number place)
    (Complete D parities sources × (place ≡ 0))

-- Check steps: its number; refused, its place; else the list is complete, and the place 0.
abbrev pub StepsChecked : ℕ → ℕ → ℕ → List ℕ → ℕ → List ℕ → List ℕ → ℕ → ℕ → Type 0
StepsChecked k m l table marks parities sources number place =
    Answered (step_list_checks k m l table marks parities sources) number (PlaceTold (desk k m l table marks) parities sources number place)
    (Complete (desk k m l table marks) parities sources × (place ≡ 0))
