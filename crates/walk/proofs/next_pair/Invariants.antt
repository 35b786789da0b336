-- No parity passed has a bare source, so the first found is the lowest. Assumes nothing.
use Prim.Native.Nat.{ℕ, ◌<◌}
use mathlib.Core.Path.{◌≡◌}
use mathlib.Core.Bool.{false}
use lib.Dec.{ltb}
use Rattle.bits.specs.Sums.{at}
use Rattle.table.specs.Desks.{desk_of}
use Rattle.walk.specs.Compute.{source_of}
use Rattle.walk.proofs.next_pair.Given as goal

abbrev pub invariant-loop-parity : goal.invariant-loop-parity
invariant-loop-parity l = (j : ℕ) → j < l.parity → ltb (source_of (desk_of l.desk) (at l.g) j) l.desk.k ≡ false
