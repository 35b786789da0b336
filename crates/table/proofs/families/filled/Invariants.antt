-- Cell after cell is the family's. Assumes nothing.
use Prim.Native.Nat.{ℕ, ◌<◌}
use mathlib.Core.Path.{◌≡◌}
use lib.ListN.{length}
use Rattle.bits.specs.Sums.{at}
use Rattle.table.specs.Limits.{cells}
use Rattle.table.specs.Table.{family_cell}
use Rattle.table.specs.Families.{family_of}
use Rattle.table.proofs.families.filled.Given as goal

abbrev pub invariant-loop-i : goal.invariant-loop-i
invariant-loop-i l = (length l.shifts ≡ cells) × ((j : ℕ) → j < l.i → at l.shifts j ≡ family_cell (family_of l.family) l.k l.m j)
