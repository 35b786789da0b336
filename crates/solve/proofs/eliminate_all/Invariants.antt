-- After each turn one unknown more is eliminated. Assumes nothing.
use Rattle.bits.specs.Sums.{at}
use Rattle.solve.specs.Solve.{Changed}
use Rattle.solve.specs.EvenRows.{EliminatedTo}
use Rattle.solve.proofs.eliminate_all.Given as goal

abbrev pub invariant-loop-q : goal.invariant-loop-q
invariant-loop-q l = Changed (EliminatedTo (at l.rises) l.n l.q) l.place l.n l.initial.rows l.rows
