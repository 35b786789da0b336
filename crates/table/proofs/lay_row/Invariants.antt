-- Entry after entry of the row stands in its cell, and no other cell is touched. Assumes nothing.
use Rattle.table.specs.Table.{RowLaid}
use Rattle.table.proofs.lay_row.Given as goal

abbrev pub invariant-loop-b : goal.invariant-loop-b
invariant-loop-b l = RowLaid l.k l.table l.a l.b l.initial.shifts l.shifts
