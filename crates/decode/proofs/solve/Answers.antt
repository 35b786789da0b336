-- By a plan the missing sources are solved for, as the steps would read them. Assumes nothing.
use Rattle.table.specs.Desks.{desk_of}
use Rattle.decode.proofs.SolvingLaws.{solved_uncovered}
use Rattle.decode.proofs.solve.Goals as goal

pub returns-clause-uncovered : goal.returns-clause-uncovered
returns-clause-uncovered c =
    let a = c.args in
    rw c.source_bits.ensures (solved_uncovered (desk_of a.desk.now) _ a.missing.now.count _ _ _ c.requires.planned a.rows.now _ c.solve_missing.ensures)
