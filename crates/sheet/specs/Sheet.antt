-- All that the class sheet prints, and the pieces that the calls give.
use Rattle.std.specs.Prelude.{◌≡◌, Option, Some, None, IfSome, List, [], ◌++◌, ℕ, ◌+◌, ◌≤◌, length, take}
use Rattle.table.specs.Checks.{Checked}
use Rattle.choices.specs.Choices.{First, Next, Last}
use Rattle.choices.specs.Promise.{Follows, OrNoughts}
use Rattle.choices.specs.Given.{held}
use Rattle.choices.specs.declared.Choice.{Choice}
use Rattle.line.specs.Promise.{Line, sheet_checks}
use Rattle.sheet.specs.Printing.{header, choice_text, refusal, room}
use Rattle.sheet.specs.Steps.{WalkOf}
use Rattle.sheet.specs.Promise.{RowPrinted}

-- the line of a choice
abbrev pub Row : ℕ → ℕ → ℕ → List ℕ → List ℕ → Type 0
Row k m l ids line = (count : ℕ) × WalkOf k m l ids 0 count × (line ≡ choice_text ids count)

-- the lines of a choice and of all that come after it, in dictionary order
pub data Lines (k m l : ℕ) : List ℕ → List ℕ → Type 0 where
  last : {ids text : List ℕ} → Row k m l ids text → Last k (k + m) ids → Lines k m l ids text
  more : {ids text : List ℕ} (line next rest : List ℕ) → Row k m l ids line → Next k (k + m) ids next → Lines k m l next rest → text ≡ line ++ rest → Lines k m l ids text

-- the whole output: a refusal, or the header and the lines from the first choice on
pub data Output (input text : List ℕ) : Type 0 where
  refused : (number : ℕ) → Checked (sheet_checks input) number → (number ≡ 0 → ⊥) → text ≡ refusal number → Output input text
  printed : (k m l : ℕ) (ids lines : List ℕ) → Checked (sheet_checks input) 0 → Line input k m l → First k (k + m) ids → Lines k m l ids lines → text ≡ header ++ lines
      → Output input text

-- the pieces that row gives, joined, with next called after each until it gives none
pub data Pieces (k m l : ℕ) : Option Choice → List ℕ → Type 0 where
  none : {text : List ℕ} → text ≡ [] → Pieces k m l None text
  piece : {text : List ℕ} (c : Choice) (next : Option Choice) (count : ℕ) (before after rest : List ℕ) → room ≤ length before → RowPrinted k m l c.ids before count after
      → OrNoughts (Follows k m c.ids) (held next) → IfSome next (λ d. Follows k m c.ids d.ids) → Pieces k m l next rest → text ≡ take count after ++ rest → Pieces k m l (Some c) text
