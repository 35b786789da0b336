-- The rows at the places that are not yet reached are as they were. Assumes nothing.
use Rattle.table.specs.Desks.{desk_of}
use Rattle.decode.specs.Solving.{AllBecame, unloaded}
use Rattle.decode.proofs.solving.unload.Given as goal

abbrev pub invariant-loop-b : goal.invariant-loop-b
invariant-loop-b l = AllBecame (unloaded (desk_of l.desk) l.plan.rows l.missing.columns l.initial.rows) l.missing.columns l.b l.initial.rows l.rows
