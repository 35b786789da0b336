-- Where orders of steps lead from nothing: to some progress, to where none is left, to all missing sources.
use Rattle.std.specs.Prelude.{◌≡◌, [], ◌∷◌, ℕ, length}
use Rattle.table.specs.Desk.{Desk}
use Rattle.table.specs.Checks.{Checks}
use Rattle.walk.specs.Walk.{Order, Run, Stuck, Whole}

module _ (D : Desk) where
  -- n steps, one after the other from nothing, lead to this progress
  pub record Reaches (n : ℕ) (end : ℕ → ℕ) : Type 0 where
    pub order : Order
    pub run : Run D (λ c. 0) order end
    pub counted : n ≡ length order

  -- n steps until none is left
  pub record Ended (n : ℕ) : Type 0 where
    pub end : ℕ → ℕ
    pub reached : Reaches n end
    pub stuck : Stuck D end

  -- n steps that finish all missing sources
  pub record Finishes (n : ℕ) : Type 0 where
    pub end : ℕ → ℕ
    pub reached : Reaches n end
    pub whole : Whole D end

  -- 8: no order of steps finishes all missing sources
  abbrev pub stall_checks : Checks
  stall_checks = (8, (n : ℕ) → Finishes n → ⊥) ∷ []
