-- After each turn the columns so far list the missing sources up to b. Assumes nothing.
use Prim.Native.Nat.{◌-◌, ◌≤◌, ◌<◌}
use mathlib.Core.Path.{◌≡◌}
use mathlib.Core.Bool.{false}
use Rattle.table.specs.Desk.{mark}
use Rattle.search.specs.Search.{Lists}
use Rattle.search.proofs.list_missing.Given as goal

abbrev pub invariant-loop-b : goal.invariant-loop-b
invariant-loop-b l = (l.b ≤ l.k) × Lists l.k l.marks l.columns l.count l.b × (l.b < l.k → mark l.marks l.b ≡ false)

abbrev pub decreases-loop-b : goal.decreases-loop-b
decreases-loop-b l = l.k - l.b
