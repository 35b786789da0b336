-- A row of noughts to which the sources were added is the parity, and as many of its bytes as are asked for are stored. Assumes nothing.
use Rattle.rows.specs.Rows.{row_words}
use Rattle.table.specs.Desks.{desk_of}
use Rattle.code.proofs.RowLaws.{row_of_noughts, row_stored}
use Rattle.code.proofs.put_parity.Goals as goal

pub returns : goal.returns
returns c =
    row_stored (desk_of c.args.desk.now) c.args.sources.now c.args.a 0 c.args.from c.args.n _ _ _ _
    (row_of_noughts row_words 0) c.requires.n_le_longest c.add_row_of.ensures c.store.ensures
