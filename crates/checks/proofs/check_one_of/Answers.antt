-- A number is none of 1 to n below 1 or above n, and each side is tested. Assumes nothing.
use mathlib.Core.Path.{refl}
use mathlib.Core.Logic.{inl, inr}
use borrow.Author.Rules.{rules}
use Rattle.table.proofs.CheckLaws.{inside}
use Rattle.checks.proofs.check_one_of.Goals as goal

pub returns-then-i-lt1 : goal.returns-then-i-lt1
returns-then-i-lt1 c = inl (inl c.if-i-lt1.true, refl)

pub returns-then-n-i : goal.returns-then-n-i
returns-then-n-i c = inl (inr c.if-n-i.true, refl)

pub returns : goal.returns
returns c = inr (inside (search rules) (search rules), refl)
