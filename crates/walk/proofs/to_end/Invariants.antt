-- After each turn some order of so many steps leads to g, and each step leaves a bit less. Assumes nothing.
use Prim.Native.Nat.{◌-◌}
use Rattle.table.specs.Desks.{desk_of}
use Rattle.walk.proofs.Totals.{all}
use Rattle.walk.proofs.Reached.{Reached}
use Rattle.walk.proofs.to_end.Given as goal

abbrev pub invariant-loop-p : goal.invariant-loop-p
invariant-loop-p l = Reached (desk_of l.desk) l.g l.count

abbrev pub decreases-loop-p : goal.decreases-loop-p
decreases-loop-p l = all (desk_of l.desk) - l.count
