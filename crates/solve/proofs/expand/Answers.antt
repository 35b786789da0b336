-- The rows from row q on and before row b have been added to. Assumes nothing.
use Rattle.std.proofs.Common.{arith}
use Rattle.solve.specs.Solve.{placed}
use Rattle.solve.proofs.PlaceLaws.{placed_still, added_placed, changed_then}
use Rattle.solve.proofs.EvenColumnLaws.{expanded_more}
use Rattle.solve.proofs.expand.Goals as goal

pub loop-b-preserved : goal.loop-b-preserved
loop-b-preserved c =
    let place = c.args.place.now in
    let rows = c.args.rows.now in
    let n = c.args.n in
    let b = c.loop-b.b in
    let now = c.loop-b.rows in
    let P = placed_still place n rows now (omega arith) c.requires.has_places in
    changed_then place n _ _ rows now _ c.loop-b.invariant (added_placed place n now P _ b (omega arith) _ (rw (c.from.ensures, c.from-in-loop-b.ensures) at c.add_up.ensures)) _
    (expanded_more c.args.e c.args.q n (placed place rows) b (placed place now) _ (omega arith) (omega arith))
