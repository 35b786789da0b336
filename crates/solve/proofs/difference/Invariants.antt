-- Row q is added to the rows after it and before row i, and these are divided. Assumes nothing.
use Rattle.bits.specs.Sums.{at}
use Rattle.solve.specs.Solve.{Changed}
use Rattle.solve.specs.EvenColumns.{Differenced}
use Rattle.solve.proofs.difference.Given as goal

abbrev pub invariant-loop-i : goal.invariant-loop-i
invariant-loop-i l = Changed (Differenced (at l.rises) l.q l.i l.n) l.place l.n l.initial.rows l.rows
