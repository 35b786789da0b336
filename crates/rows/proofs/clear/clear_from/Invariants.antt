-- From the word on that bit n stands in; the words before it are as they were. Assumes nothing.
use Rattle.std.proofs.Common.{◌≡◌, ◌+◌, ◌*◌, ◌<◌, length}
use Rattle.rows.specs.Rows.{row_in}
use Rattle.rows.proofs.RowLaws.{SetTo}
use Rattle.rows.proofs.ClearFromLaws.{cut_at}
use Rattle.rows.proofs.clear.clear_from.Given as goal

abbrev pub invariant-loop-c : goal.invariant-loop-c
invariant-loop-c l = (l.n < l.c * 64 + 64) × (length l.rows ≡ length l.initial.rows) × SetTo l.a (cut_at l.n (row_in l.initial.rows l.a)) l.c l.initial.rows l.rows
