-- The rows passed hold the entries of the table and have their reaches, and the rows below hold 0. Assumes nothing.
use Prim.Native.Nat.{ℕ, ◌*◌, ◌/◌, ◌%◌, ◌≤◌, ◌<◌}
use mathlib.Core.Path.{◌≡◌}
use lib.ListN.{length}
use Rattle.bits.specs.Sums.{at}
use Rattle.table.specs.Limits.{max_k, max_m}
use Rattle.table.specs.Desk.{entry, most}
use Rattle.table.proofs.packets.lay_rows.Given as goal

abbrev pub invariant-loop-a : goal.invariant-loop-a
invariant-loop-a l =
    ((i : ℕ) → i < l.a * max_k → at l.shifts i ≡ entry l.k l.table (i / max_k) (i % max_k)) × ((i : ℕ) → l.a * max_k ≤ i → at l.shifts i ≡ 0)
    × (length l.reaches ≡ max_m) × ((j : ℕ) → j < l.a → at l.reaches j ≡ most l.k (entry l.k l.table j))
