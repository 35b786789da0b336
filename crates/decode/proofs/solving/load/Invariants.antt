-- The rows of the parities stand at none of the places, and are read as they were. Assumes nothing.
use Rattle.table.specs.Desks.{desk_of}
use Rattle.decode.specs.Solving.{AllBecame, loaded}
use Rattle.decode.proofs.solving.load.Given as goal

abbrev pub invariant-loop-i : goal.invariant-loop-i
invariant-loop-i l = AllBecame (loaded (desk_of l.desk) l.plan.rows l.missing.columns l.initial.rows) l.missing.columns l.i l.initial.rows l.rows
