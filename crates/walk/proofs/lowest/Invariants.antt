-- After each turn x keeps the lowest next bit among the sources passed. Assumes nothing.
use Rattle.bits.specs.Sums.{at}
use Rattle.table.specs.Desks.{desk_of}
use Rattle.walk.specs.Compute.{scan}
use Rattle.walk.specs.Lows.{LowsApart}
use Rattle.walk.proofs.lowest.Given as goal

abbrev pub invariant-loop-b : goal.invariant-loop-b
invariant-loop-b l = LowsApart l.desk.k l.x.place l.x.source (scan (desk_of l.desk) (at l.g) l.a l.b)
