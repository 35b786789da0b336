-- A length is outside its range below it or above it, and each side is tested. Assumes nothing.
use mathlib.Core.Path.{refl}
use mathlib.Core.Logic.{inl, inr}
use borrow.Author.Rules.{rules}
use Rattle.table.proofs.CheckLaws.{inside}
use Rattle.checks.proofs.check_length.Goals as goal

pub returns-then-l-lt1 : goal.returns-then-l-lt1
returns-then-l-lt1 c = inl (inl c.if-l-lt1.true, refl)

pub returns-then-l-gt-MAX_LENGTH : goal.returns-then-l-gt-MAX_LENGTH
returns-then-l-gt-MAX_LENGTH c = inl (inr c.if-l-gt-MAX_LENGTH.true, refl)

pub returns : goal.returns
returns c = inr (inside (search rules) (search rules), refl)
