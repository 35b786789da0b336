-- What check steps gives, as its promise names it: its number, 0 where the list is complete, and the place told with a refusal, else 0.
use Rattle.std.specs.Prelude.{ℕ, Result, Ok, Err}
use Rattle.table.specs.Refusals.{number_of}
use Rattle.steps.specs.declared.BadSteps.{BadSteps}

abbrev pub steps_number : {A : Type 0} → Result A BadSteps → ℕ
steps_number (Ok a) = 0
steps_number (Err b) = number_of b.refusal

abbrev pub steps_place : {A : Type 0} → Result A BadSteps → ℕ
steps_place (Ok a) = 0
steps_place (Err b) = b.place
