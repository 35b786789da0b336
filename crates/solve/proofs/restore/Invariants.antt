-- The rows after row q and before row b are divided, and added to row q. Assumes nothing.
use Rattle.bits.specs.Sums.{at}
use Rattle.solve.specs.Solve.{Changed}
use Rattle.solve.specs.EvenRows.{Restored}
use Rattle.solve.proofs.restore.Given as goal

abbrev pub invariant-loop-b : goal.invariant-loop-b
invariant-loop-b l = Changed (Restored (at l.rises) l.q l.b l.n) l.place l.n l.initial.rows l.rows
