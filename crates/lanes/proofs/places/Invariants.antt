-- The packets at hand follow one another without gaps, so that each stands where the one before it ends; all places are below 2 ^ 16. Assumes nothing.
use Prim.Native.Nat.{◌+◌, ◌-◌}
use Rattle.table.specs.Desks.{desk_of}
use Rattle.survivors.proofs.AtHand.{AtPacket}
use Rattle.lanes.proofs.PlaceLaws.{PlacesBelow}
use Rattle.lanes.proofs.places.Given as goal

abbrev pub invariant-loop-i : goal.invariant-loop-i
invariant-loop-i l = AtPacket (desk_of l.desk) l.desk.marks (l.desk.k + l.desk.m) l.from l.i × PlacesBelow (desk_of l.desk) l.desk.marks l.i l.places

abbrev pub decreases-loop-i : goal.decreases-loop-i
decreases-loop-i l = l.desk.k + l.desk.m - l.i
