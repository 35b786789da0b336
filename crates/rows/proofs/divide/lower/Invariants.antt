-- From the first word up, so that the words that are read are still as they were. Assumes nothing.
use Rattle.std.proofs.Common.{◌+◌}
use Rattle.rows.specs.Rows.{row_in}
use Rattle.rows.proofs.RowLaws.{SetTo}
use Rattle.rows.proofs.divide.lower.Given as goal

abbrev pub invariant-loop-c : goal.invariant-loop-c
invariant-loop-c l = SetTo l.a (λ p. row_in l.initial.rows l.a (l.e + p)) l.c l.initial.rows l.rows
