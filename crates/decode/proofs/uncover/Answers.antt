-- By a plan the missing sources are solved for, as the steps would read them; else the steps are made one by one. Assumes nothing.
use Rattle.table.specs.Desks.{desk_of}
use Rattle.table.proofs.Bounds.{within_bounds}
use Rattle.decode.proofs.EndLaws.{decoded_uncovered}
use Rattle.decode.proofs.uncover.Goals as goal

pub returns-in-None : goal.returns-in-None
returns-in-None c =
    let W = within_bounds c.args.desk.now in
    decoded_uncovered (desk_of c.args.desk.now) W c.decode.result.count c.decode.result.whole c.args.rows.now _ c.requires.blank c.decode.ensures
