-- Byte i is the shift in row i div k and column i mod k. Assumes nothing.
use Prim.Native.Nat.{ℕ, ◌+◌, ◌*◌, ◌/◌, ◌%◌, ◌<◌}
use mathlib.Core.Path.{◌≡◌}
use Rattle.bits.specs.Sums.{at}
use Rattle.table.specs.Limits.{max_k}
use Rattle.family.proofs.write.Given as goal

abbrev pub invariant-loop-i : goal.invariant-loop-i
invariant-loop-i l = (j : ℕ) → j < l.i → at l.out j ≡ at l.shifts (j / l.k * max_k + j % l.k)
