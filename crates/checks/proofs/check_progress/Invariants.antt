-- Each source passed has room for its progress, and one that has none ends the search. Assumes nothing.
use Prim.Native.Nat.{ℕ, ◌≤◌, ◌<◌, ◌-◌}
use Rattle.table.specs.Limits.{max_k}
use Rattle.table.specs.Checks.{Astray}
use Rattle.checks.proofs.check_progress.Given as goal

abbrev pub invariant-loop-c : goal.invariant-loop-c
invariant-loop-c l = (l.c ≤ max_k) × ((j : ℕ) → j < l.c → Astray l.desk.k l.desk.length l.desk.marks l.progress j → ⊥)

abbrev pub decreases-loop-c : goal.decreases-loop-c
decreases-loop-c l = max_k - l.c
