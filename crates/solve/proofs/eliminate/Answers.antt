-- The rows after row i have been added to, from the last one up. Assumes nothing.
use Rattle.std.proofs.Common.{◌-◌, arith}
use Rattle.solve.specs.Solve.{placed}
use Rattle.solve.proofs.PlaceLaws.{placed_still, added_placed, changed_then}
use Rattle.solve.proofs.EvenRowLaws.{eliminated_more}
use Rattle.solve.proofs.eliminate.Goals as goal

pub loop-i-preserved : goal.loop-i-preserved
loop-i-preserved c =
    let place = c.args.place.now in
    let rows = c.args.rows.now in
    let n = c.args.n in
    let e = c.args.e in
    let i = c.loop-i.i - 1 in
    let now = c.loop-i.rows in
    let P = placed_still place n rows now (omega arith) c.requires.has_places in (
      omega arith,
      changed_then place n _ _ rows now _ c.loop-i.invariant.1 (added_placed place n now P _ i (omega arith) _ (rw (c.from.ensures, c.from-in-loop-i.ensures) at c.add_up.ensures)) _
          (eliminated_more e n (placed place rows) i (placed place now) _ (omega arith) (omega arith)),
    )
