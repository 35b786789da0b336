-- The rows from row q on and before row b have been added to. Assumes nothing.
use Rattle.solve.specs.Solve.{Changed}
use Rattle.solve.specs.EvenColumns.{Expanded}
use Rattle.solve.proofs.expand.Given as goal

abbrev pub invariant-loop-b : goal.invariant-loop-b
invariant-loop-b l = Changed (Expanded l.e l.q l.b l.n) l.place l.n l.initial.rows l.rows
