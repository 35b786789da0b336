-- After each turn x is the largest of the bytes passed. Assumes nothing.
use Prim.Native.Nat.{◌+◌, ◌<◌}
use mathlib.Core.Path.{◌≡◌}
use Rattle.bits.specs.Sums.{at}
use Rattle.table.specs.Desk.{most}
use Rattle.table.proofs.packets.largest.Given as goal

abbrev pub invariant-loop-b : goal.invariant-loop-b
invariant-loop-b l = (l.x ≡ most l.b (λ b. at l.s (l.«from» + b))) × (l.x < 256)
