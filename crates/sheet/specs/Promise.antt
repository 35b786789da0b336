-- What the calls that print a piece promise.
use Rattle.std.specs.Prelude.{◌≡◌, ◌⊎◌, List, ℕ, ◌≤◌, ◌<◌, length}
use Rattle.text.specs.Text.{Front}
use Rattle.choices.specs.Promise.{Holding}
use Rattle.sheet.specs.Printing.{choice_text, room}
use Rattle.sheet.specs.Steps.{WalkOf}

-- Print: with less room than a piece may take, nothing; else the text at the front, and how long it is.
pub record Printed (text before : List ℕ) (count : ℕ) (after : List ℕ) : Type 0 where
  pub short : length before < room → (count ≡ 0) × (after ≡ before)
  pub done : room ≤ length before → (count ≡ length text) × Front before text after

-- the line of the choice that is held
pub record RowOf (k m l : ℕ) (held text : List ℕ) : Type 0 where
  pub ids : List ℕ
  pub was : Holding k m held ids
  pub count : ℕ
  pub counted : WalkOf k m l ids 0 count
  pub text_is : text ≡ choice_text ids count

-- no line: no choice is held, or the walk refuses it
abbrev pub NoRow : ℕ → ℕ → ℕ → List ℕ → Type 0
NoRow k m l held =
    ((ids : List ℕ) → Holding k m held ids → ⊥)
    ⊎ ((ids : List ℕ) × (number : ℕ) × (count : ℕ) × Holding k m held ids × WalkOf k m l ids number count × (number ≡ 0 → ⊥))

-- Row: the line of the choice; where there is none, nothing.
abbrev pub RowPrinted : ℕ → ℕ → ℕ → List ℕ → List ℕ → ℕ → List ℕ → Type 0
RowPrinted k m l held before count after =
    ((text : List ℕ) × RowOf k m l held text × Printed text before count after)
    ⊎ (NoRow k m l held × (count ≡ 0) × (after ≡ before))
