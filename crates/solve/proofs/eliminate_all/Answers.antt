-- After each turn one unknown more is eliminated. Assumes nothing.
use Rattle.std.proofs.Common.{arith}
use Rattle.bits.specs.Sums.{at}
use Rattle.solve.specs.Solve.{placed}
use Rattle.solve.proofs.PlaceLaws.{changed_none, changed_then}
use Rattle.solve.proofs.EvenRowLaws.{eliminated_from, eliminated_next}
use Rattle.solve.proofs.eliminate_all.Goals as goal

pub loop-q-init : goal.loop-q-init
loop-q-init c =
    let rows = c.args.rows.now in
    let place = c.args.place.now in
    let n = c.args.n in
    changed_none place n _ rows (eliminated_from (at c.args.rises.now) n c.requires.rising.climbs (placed place rows))

pub loop-q-preserved : goal.loop-q-preserved
loop-q-preserved c =
    let place = c.args.place.now in
    let rows = c.args.rows.now in
    let n = c.args.n in
    let now = c.loop-q.rows in
    changed_then place n _ _ rows now _ c.loop-q.invariant (rw c.from.ensures at c.eliminate.ensures) _
    (eliminated_next (at c.args.rises.now) n c.requires.rising.climbs (placed place rows) c.loop-q.q (placed place now) _ (omega arith))
