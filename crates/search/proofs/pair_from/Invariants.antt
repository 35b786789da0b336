-- Only parities at hand are looked at, and the source that leads in the row of one is bare there. Assumes nothing.
use Prim.Native.Nat.{◌+◌, ◌-◌, ◌≤◌, ◌<◌}
use mathlib.Core.Path.{◌≡◌}
use mathlib.Core.Bool.{true}
use Rattle.table.specs.Desk.{mark}
use Rattle.search.proofs.pair_from.Given as goal

abbrev pub invariant-loop-i : goal.invariant-loop-i
invariant-loop-i l = (l.desk.k ≤ l.i) × (l.i ≤ l.desk.k + l.desk.m) × (l.i < l.desk.k + l.desk.m → mark l.desk.marks l.i ≡ true)

abbrev pub decreases-loop-i : goal.decreases-loop-i
decreases-loop-i l = l.desk.k + l.desk.m - l.i
