-- The rows after row i have been added to, from the last one up. Assumes nothing.
use Rattle.std.proofs.Common.{◌-◌, ◌<◌}
use Rattle.solve.specs.Solve.{Changed}
use Rattle.solve.specs.EvenRows.{Eliminated}
use Rattle.solve.proofs.eliminate.Given as goal

abbrev pub invariant-loop-i : goal.invariant-loop-i
invariant-loop-i l = (l.q < l.i) × Changed (Eliminated l.e (l.i - 1) l.n) l.place l.n l.initial.rows l.rows
