-- Each word of row b is added to the same word of row a, shifted up, with what crossed from the word before. Assumes nothing.
use Rattle.std.proofs.Common.{◌≡◌, length}
use Rattle.bits.specs.Bits.{up}
use Rattle.rows.specs.Rows.{row_in}
use Rattle.rows.proofs.RowLaws.{AddedBelow}
use Rattle.rows.proofs.ShiftLaws.{Carries}
use Rattle.rows.proofs.add_raised.Given as goal

abbrev pub invariant-loop-c : goal.invariant-loop-c
invariant-loop-c l = (length l.rows ≡ length l.initial.rows) × AddedBelow l.a (up l.e (row_in l.initial.rows l.b)) l.initial.rows l.c l.rows × Carries l.e (row_in l.initial.rows l.b) l.c l.carry
