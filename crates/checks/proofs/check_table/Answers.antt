-- The bytes are counted first, then every entry is looked at. Assumes nothing.
use mathlib.Core.Path.{refl}
use mathlib.Core.Logic.{inl, inr}
use Rattle.table.proofs.CheckLaws.{neither}
use Rattle.table.proofs.TableLaws.{small_product, not_low}
use native.Mathlib.Omega.{arith}
use borrow.Author.Rules.{rules}
use Rattle.checks.proofs.check_table.Goals as goal

pub overflow_mul-m : goal.overflow_mul-m
overflow_mul-m c = omega (arith, small_product c.args.m c.args.k (search rules) (search rules))

pub returns-then-table-m : goal.returns-then-table-m
returns-then-table-m c = inl (inl c.if-table-m.true, refl)

pub returns-then-low : goal.returns-then-low
returns-then-low c = inr (neither (λ n. n c.if-table-m.false) (λ x. omega (arith, c.low.ensures.so c.if-low.true x.0, x.1)), refl)

pub returns-else-low : goal.returns-else-low
returns-else-low c = inl (inr (not_low c.args.table.now (c.low.ensures.not_so c.if-low.false)), refl)
