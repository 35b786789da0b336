-- After each turn r times 1 + z ^ d is x times 1 + z ^ e. Assumes nothing.
use Rattle.std.proofs.Common.{◌-◌, ◌≤◌}
use Rattle.rows.proofs.DivideLaws.{Between}
use Rattle.rows.proofs.divide.halve_word.Given as goal

abbrev pub invariant-loop-e : goal.invariant-loop-e
invariant-loop-e l = (1 ≤ l.e) × Between l.d l.e l.initial.r l.r

abbrev pub decreases-loop-e : goal.decreases-loop-e
decreases-loop-e l = 64 - l.e
