-- Each source passed is full, and one that is not ends the search. Assumes nothing.
use mathlib.Core.Path.{◌≡◌}
use mathlib.Core.Bool.{true}
use Rattle.bits.specs.Sums.{at, all_b}
use mathlib.Core.List.{[]}
use Rattle.table.specs.Desk.{desk}
use Rattle.walk.specs.Compute.{full_b}
use Rattle.walk.proofs.all_whole.Given as goal

abbrev pub invariant-loop-b : goal.invariant-loop-b
invariant-loop-b l = all_b l.b (full_b (desk l.k 0 l.length [] l.marks) (at l.g)) ≡ true
