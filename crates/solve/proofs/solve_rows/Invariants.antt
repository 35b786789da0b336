-- All unknowns but the last are eliminated; then after each turn one more is restored. Assumes nothing.
use Rattle.bits.specs.Sums.{at}
use Rattle.solve.specs.Solve.{Changed}
use Rattle.solve.proofs.EvenRowLaws.{RestoredTo}
use Rattle.solve.proofs.solve_rows.Given as goal

abbrev pub invariant-loop-q : goal.invariant-loop-q
invariant-loop-q l = Changed (RestoredTo (at l.rises) l.n l.q) l.place l.n l.initial.rows l.rows
