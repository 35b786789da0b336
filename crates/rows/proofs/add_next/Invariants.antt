-- Each word of row b is added to the next word of row a; into its first word nothing comes. Assumes nothing.
use Rattle.bits.specs.Bits.{up}
use Rattle.rows.specs.Rows.{row_in}
use Rattle.rows.proofs.RowLaws.{AddedBelow}
use Rattle.rows.proofs.add_next.Given as goal

abbrev pub invariant-loop-c : goal.invariant-loop-c
invariant-loop-c l = AddedBelow l.a (up 64 (row_in l.initial.rows l.b)) l.initial.rows l.c l.rows
