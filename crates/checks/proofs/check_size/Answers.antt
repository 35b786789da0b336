-- A size is outside where k or m is, below its range or above it, and each side is tested. Assumes nothing.
use mathlib.Core.Path.{refl}
use mathlib.Core.Logic.{inl, inr}
use borrow.Author.Rules.{rules}
use Rattle.table.proofs.CheckLaws.{neither, inside}
use Rattle.checks.proofs.check_size.Goals as goal

pub returns-then-k-lt1 : goal.returns-then-k-lt1
returns-then-k-lt1 c = inl (inl (inl c.if-k-lt1.true), refl)

pub returns-then-k-gt-MAX_K : goal.returns-then-k-gt-MAX_K
returns-then-k-gt-MAX_K c = inl (inl (inr c.if-k-gt-MAX_K.true), refl)

pub returns-then-m-lt1 : goal.returns-then-m-lt1
returns-then-m-lt1 c = inl (inr (inl c.if-m-lt1.true), refl)

pub returns-then-m-gt-MAX_M : goal.returns-then-m-gt-MAX_M
returns-then-m-gt-MAX_M c = inl (inr (inr c.if-m-gt-MAX_M.true), refl)

pub returns : goal.returns
returns c = inr (neither (inside (search rules) (search rules)) (inside (search rules) (search rules)), refl)
