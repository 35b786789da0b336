-- The packets at hand follow one another without gaps: where one ends the next that is present begins, and each is put into its row. Assumes nothing.
use Prim.Native.Nat.{◌+◌, ◌-◌}
use Rattle.table.specs.Desks.{desk_of}
use Rattle.survivors.specs.Remainders.{Roomy}
use Rattle.survivors.proofs.AtHand.{AtPacket}
use Rattle.survivors.proofs.PlaceLaws.{PlacedBelow}
use Rattle.survivors.proofs.place_packets.Given as goal

abbrev pub invariant-loop-i : goal.invariant-loop-i
invariant-loop-i l = Roomy l.rows × AtPacket (desk_of l.desk) l.desk.marks (l.desk.k + l.desk.m) l.from l.i × PlacedBelow l.desk l.packets l.i l.rows

abbrev pub decreases-loop-i : goal.decreases-loop-i
decreases-loop-i l = l.desk.k + l.desk.m - l.i
