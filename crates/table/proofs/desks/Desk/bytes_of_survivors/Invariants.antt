-- The places of the packets present add up, from one to the next and past the last. Assumes nothing.
use Prim.Native.Nat.{◌+◌, ◌*◌, ◌≤◌, ◌<◌, ◌-◌}
use mathlib.Core.Bool.{true}
use mathlib.Core.Path.{◌≡◌}
use Rattle.table.specs.Limits.{longest}
use Rattle.table.specs.Desk.{mark, place_of}
use Rattle.table.specs.Desks.{desk_of}
use Rattle.table.proofs.desks.Desk.bytes_of_survivors.Given as goal

abbrev pub invariant-loop-i : goal.invariant-loop-i
invariant-loop-i l =
    (l.i ≤ l.self.k + l.self.m) × (l.i < l.self.k + l.self.m → mark l.self.marks l.i ≡ true) × (l.total ≡ place_of (desk_of l.self) (mark l.self.marks) l.i) × (l.total ≤ longest * l.i)

abbrev pub decreases-loop-i : goal.decreases-loop-i
decreases-loop-i l = l.self.k + l.self.m - l.i
