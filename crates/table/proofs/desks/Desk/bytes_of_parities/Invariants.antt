-- The places of the parities add up, one parity after the other. Assumes nothing.
use Prim.Native.Nat.{◌+◌, ◌*◌, ◌≤◌}
use mathlib.Core.Path.{◌≡◌}
use lib.Dec.{leb}
use Rattle.table.specs.Limits.{longest}
use Rattle.table.specs.Desk.{place_of}
use Rattle.table.specs.Desks.{desk_of}
use Rattle.table.proofs.desks.Desk.bytes_of_parities.Given as goal

abbrev pub invariant-loop-a : goal.invariant-loop-a
invariant-loop-a l = (l.total ≡ place_of (desk_of l.self) (leb l.self.k) (l.self.k + l.a)) × (l.total ≤ longest * l.a)
