-- The words' bits are pushed in from below, the last word's first. Assumes nothing.
use Prim.Native.Nat.{◌+◌}
use Rattle.bits.specs.Sums.{at}
use Rattle.bits.specs.Bits.{bit}
use Rattle.lanes.proofs.WordLaws.{Built}
use Rattle.lanes.proofs.lane_byte.Given as goal

abbrev pub invariant-loop-j : goal.invariant-loop-j
invariant-loop-j l = Built 8 (λ i. bit (at l.lanes (l.first + i)) l.t) l.j l.byte
