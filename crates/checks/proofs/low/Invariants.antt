-- The most so far is above no limit that holds of the entries passed, and none of them is above it. Assumes nothing.
use Prim.Native.Nat.{ℕ, ◌≤◌, ◌<◌}
use Rattle.bits.specs.Sums.{at}
use Rattle.table.specs.Limits.{max_shift}
use Rattle.checks.proofs.low.Given as goal

abbrev pub invariant-loop-i : goal.invariant-loop-i
invariant-loop-i l = (((j : ℕ) → j < l.i → at l.table j ≤ max_shift) → l.most ≤ max_shift) × ((j : ℕ) → j < l.i → at l.table j ≤ l.most)
