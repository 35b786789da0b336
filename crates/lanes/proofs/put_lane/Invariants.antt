-- Byte after byte is stored behind those that stand there. Assumes nothing.
use Prim.Native.Nat.{◌+◌}
use Rattle.bits.specs.Sums.{at}
use Rattle.bits.specs.Bits.{bit}
use Rattle.rows.specs.Rows.{Stored}
use Rattle.lanes.proofs.put_lane.Given as goal

abbrev pub invariant-loop-i : goal.invariant-loop-i
invariant-loop-i l = Stored l.from l.i (λ p. bit (at l.lanes (l.first + p)) l.t) l.initial.out l.out
