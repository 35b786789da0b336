-- After each turn each word times 1 + z ^ d is what it was times 1 + z ^ e. Assumes nothing.
use Rattle.std.proofs.Common.{◌≡◌, ◌-◌, ◌≤◌, length}
use Rattle.rows.specs.Words.{EachWord}
use Rattle.rows.proofs.DivideLaws.{Between}
use Rattle.rows.proofs.divide.halve_words.Given as goal

abbrev pub invariant-loop-shift : goal.invariant-loop-shift
invariant-loop-shift l = (1 ≤ l.shift) × (length l.rows ≡ length l.initial.rows) × EachWord l.a (Between l.d l.shift) l.initial.rows l.rows

abbrev pub decreases-loop-shift : goal.decreases-loop-shift
decreases-loop-shift l = 64 - l.shift
