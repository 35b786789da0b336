-- The count of steps of a choice: that of the walk with the house table, the packets of the choice at hand.
use Rattle.std.specs.Prelude.{◌≡◌, Bool, false, ◌||◌, List, [], ◌∷◌, ℕ, suc, eqb}
use Rattle.table.specs.Desk.{mark}
use Rattle.family.specs.Promise.{HouseTable}
use Rattle.walk.specs.Promise.{Walked}

-- whether x is among the numbers
unfoldable pub among : List ℕ → ℕ → Bool
among [] x = false
among (y ∷ ys) x = eqb y x || among ys x

-- the mark of each packet is set exactly when its number, from 1, is among those of the choice
abbrev pub Marked : List ℕ → ℕ → Type 0
Marked ids marks = (i : ℕ) → mark marks i ≡ among ids (suc i)

-- the number and the count that the walk gives
pub record WalkOf (k m l : ℕ) (ids : List ℕ) (number count : ℕ) : Type 0 where
  pub table : List ℕ
  pub house : HouseTable k m table
  pub marks : ℕ
  pub marked : Marked ids marks
  pub whole : ℕ
  pub progress : List ℕ
  pub walked : Walked k m l table marks number count whole progress
