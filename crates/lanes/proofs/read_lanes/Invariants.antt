-- After each turn some order of so many steps leads to g, and in every stripe what is known is what that order reads there. Assumes nothing.
use Prim.Native.Nat.{◌-◌, ◌≤◌}
use Rattle.table.specs.Desks.{desk_of}
use Rattle.walk.proofs.Totals.{all}
use Rattle.lanes.proofs.LaneSteps.{Stepping}
use Rattle.lanes.proofs.read_lanes.Given as goal

abbrev pub invariant-loop-p : goal.invariant-loop-p
invariant-loop-p l = (l.row ≤ l.desk.m) × Stepping (desk_of l.desk) l.log.packets.now l.log.stripes l.g l.count l.lanes

abbrev pub decreases-loop-p : goal.decreases-loop-p
decreases-loop-p l = all (desk_of l.desk) - l.count
