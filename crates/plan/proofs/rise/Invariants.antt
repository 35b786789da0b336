-- The shifts looked at so far rise by v more than those of the first column. Assumes nothing.
use Rattle.table.specs.Desks.{desk_of}
use Rattle.plan.specs.Even.{shift_at, RisesBy}
use Rattle.plan.proofs.rise.Given as goal

abbrev pub invariant-loop-i : goal.invariant-loop-i
invariant-loop-i l = RisesBy (shift_at (desk_of l.desk) l.rows l.missing.columns l.turned) l.i l.j l.v
