-- The packets at hand follow one another without gaps, so the first that differs decides, and if none does they are those of the sources. Assumes nothing.
use Prim.Native.Nat.{◌+◌, ◌-◌}
use Rattle.encode.proofs.SameLaws.{SameBelow}
use Rattle.encode.proofs.same_packets.Given as goal

abbrev pub invariant-loop-i : goal.invariant-loop-i
invariant-loop-i l = SameBelow l.desk l.sources l.packets l.from l.i

abbrev pub decreases-loop-i : goal.decreases-loop-i
decreases-loop-i l = l.desk.k + l.desk.m - l.i
