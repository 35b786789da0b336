-- Each source passed has room for its progress, and one that has none ends the search. Assumes nothing.
use mathlib.Core.Path.{refl}
use mathlib.Core.Logic.{inl, inr}
use borrow.Author.Count.{below_none, below_more}
use Rattle.table.proofs.TableLaws.{past_room, within_room}
use native.Mathlib.Omega.{arith}
use Rattle.checks.proofs.check_progress.Goals as goal

pub loop-c-init : goal.loop-c-init
loop-c-init c = (omega arith, below_none _)

pub returns-then-room-progress : goal.returns-then-room-progress
returns-then-room-progress c =
    let i = c.loop-c.c in
    inl ((i, omega arith, past_room c.args.desk.now.k c.args.desk.now.length c.args.desk.now.marks c.args.progress.now i (omega (arith, c.room.ensures))), refl)

pub loop-c-preserved : goal.loop-c-preserved
loop-c-preserved c =
    let s = c.args in
    let room = within_room s.desk.now.k s.desk.now.length s.desk.now.marks s.progress.now c.loop-c.c (omega (arith, c.room.ensures)) in
    (omega arith, below_more _ c.loop-c.c c.loop-c.invariant.1 room)

pub returns : goal.returns
returns c = inr ((λ x. c.loop-c.invariant.1 x.0 (omega (arith, x.1)) x.2), refl)
