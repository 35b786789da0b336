-- The rows become divided differences; then after each turn one more is a coefficient. Assumes nothing.
use Rattle.bits.specs.Sums.{at}
use Rattle.solve.specs.Solve.{Changed}
use Rattle.solve.proofs.EvenColumnLaws.{ExpandedTo}
use Rattle.solve.proofs.solve_columns.Given as goal

abbrev pub invariant-loop-q : goal.invariant-loop-q
invariant-loop-q l = Changed (ExpandedTo (at l.rises) l.n l.q) l.place l.n l.initial.rows l.rows
