-- No packet passed has a one above its last bit, so the first that has one decides, and if none has there is none. Assumes nothing.
use Prim.Native.Nat.{◌+◌, ◌-◌}
use Rattle.table.specs.Desks.{desk_of}
use Rattle.survivors.proofs.AtHand.{AtPacket}
use Rattle.survivors.proofs.StrayLaws.{ClearBelow}
use Rattle.survivors.proofs.stray.Given as goal

abbrev pub invariant-loop-i : goal.invariant-loop-i
invariant-loop-i l = AtPacket (desk_of l.desk) l.desk.marks (l.desk.k + l.desk.m) l.from l.i × ClearBelow l.desk l.packets l.i

abbrev pub decreases-loop-i : goal.decreases-loop-i
decreases-loop-i l = l.desk.k + l.desk.m - l.i
