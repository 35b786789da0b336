-- The columns looked at so far have room. Assumes nothing.
use mathlib.Core.Bool.{false}
use Rattle.table.specs.Desks.{desk_of}
use Rattle.plan.specs.Even.{shift_at, RoomTo}
use Rattle.plan.proofs.has_room.Given as goal

abbrev pub invariant-loop-b : goal.invariant-loop-b
invariant-loop-b l = RoomTo (shift_at (desk_of l.desk) l.rows l.missing.columns false) l.missing.count l.b
