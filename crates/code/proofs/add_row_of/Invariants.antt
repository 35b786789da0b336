-- Source after source is added, each at its own shift, and all of them fit the row. Assumes nothing.
use Rattle.table.specs.Desks.{desk_of}
use Rattle.code.proofs.RowLaws.{Sums}
use Rattle.code.proofs.add_row_of.Given as goal

abbrev pub invariant-loop-b : goal.invariant-loop-b
invariant-loop-b l = Sums (desk_of l.desk) l.sources l.a l.at l.initial.rows l.b l.rows
