-- Each word is added to the word of the row that stands as far up; behind them stand no bits. Assumes nothing.
use Rattle.std.proofs.Common.{◌+◌, ◌*◌}
use Rattle.bits.specs.Bits.{bit_at, up}
use Rattle.rows.proofs.RowLaws.{AddedBelow}
use Rattle.rows.proofs.bytes.add_whole.Given as goal

abbrev pub invariant-loop-c : goal.invariant-loop-c
invariant-loop-c l = AddedBelow l.a (up (l.first * 64) (bit_at l.src)) l.initial.rows (l.first + l.c) l.rows
