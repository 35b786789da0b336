-- The rows passed hold the entries of the table, and the rows below hold 0. Assumes nothing.
use Prim.Native.Nat.{ℕ, ◌*◌, ◌/◌, ◌%◌, ◌≤◌, ◌<◌}
use mathlib.Core.Path.{◌≡◌}
use Rattle.bits.specs.Sums.{at}
use Rattle.table.specs.Desk.{entry}
use Rattle.table.specs.Limits.{max_k}
use Rattle.table.proofs.lay_out.Given as goal

abbrev pub invariant-loop-a : goal.invariant-loop-a
invariant-loop-a l = ((i : ℕ) → i < l.a * max_k → at l.shifts i ≡ entry l.k l.table (i / max_k) (i % max_k)) × ((i : ℕ) → l.a * max_k ≤ i → at l.shifts i ≡ 0)
