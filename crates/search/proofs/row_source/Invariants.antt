-- After each turn the sources below the next column were looked at. Assumes nothing.
use Rattle.bits.specs.Sums.{at}
use Rattle.table.specs.Desks.{desk_of}
use Rattle.search.specs.Search.{Leading}
use Rattle.search.proofs.row_source.Given as goal

abbrev pub invariant-loop-j : goal.invariant-loop-j
invariant-loop-j l = Leading (desk_of l.desk) (at l.g) l.a (at l.missing.columns l.j) l.x.place l.x.source
