-- For m below k, k and m change places, and so do a and b. Assumes nothing.
use mathlib.Core.Path.{◌∙◌}
use Rattle.table.proofs.FamilyLaws.{hankel_tall, hankel_wide}
use Rattle.table.proofs.families.hankel_shift.Goals as goal

pub returns-then-k-m : goal.returns-then-k-m
returns-then-k-m c = let s = c.args in c.tall_shift.ensures ∙ hankel_tall s.k s.m s.a s.b c.if-k-m.true

pub returns : goal.returns
returns c = let s = c.args in c.tall_shift-2.ensures ∙ hankel_wide s.k s.m s.a s.b c.if-k-m.false
