-- One byte after another, from the last, comes in below those that are there. Assumes nothing.
use Rattle.std.proofs.Common.{◌≤◌}
use Rattle.rows.proofs.WordLaws.{TailFrom}
use Rattle.rows.proofs.bytes.tail.Given as goal

abbrev pub invariant-loop-i : goal.invariant-loop-i
invariant-loop-i l = (l.from ≤ l.i) × TailFrom l.src l.i l.x
