-- After each turn one difference more is there. Assumes nothing.
use Rattle.bits.specs.Sums.{at}
use Rattle.solve.specs.Solve.{Changed}
use Rattle.solve.specs.EvenColumns.{DifferencedTo}
use Rattle.solve.proofs.difference_all.Given as goal

abbrev pub invariant-loop-q : goal.invariant-loop-q
invariant-loop-q l = Changed (DifferencedTo (at l.rises) l.n l.q) l.place l.n l.initial.rows l.rows
