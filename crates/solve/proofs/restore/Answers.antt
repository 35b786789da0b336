-- The rows after row q and before row b are divided, and added to row q. Assumes nothing.
use Rattle.std.proofs.Common.{◌≡◌, ◌+◌, ◌-◌, arith}
use Rattle.bits.specs.Sums.{at}
use Rattle.rows.proofs.RowLaws.{row_lt}
use Rattle.solve.specs.Solve.{placed, HasPlaces}
use Rattle.solve.proofs.PlaceLaws.{placed_still, added_placed, divided_placed, changed_none, changed_twice}
use Rattle.solve.proofs.EvenRowLaws.{restored_none, restored_more}
use Rattle.solve.proofs.restore.Goals as goal

pub loop-b-init : goal.loop-b-init
loop-b-init c =
    let rows = c.args.rows.now in
    let place = c.args.place.now in
    let q = c.args.q in
    changed_none place c.args.n _ rows (restored_none (at c.args.rises.now) q c.args.n (placed place rows) (row_lt rows (at place q)))

pub loop-b-preserved : goal.loop-b-preserved
loop-b-preserved c =
    let place = c.args.place.now in
    let rows = c.args.rows.now in
    let v = at c.args.rises.now in
    let n = c.args.n in
    let q = c.args.q in
    let b = c.loop-b.b in
    let now = c.loop-b.rows in
    let P : HasPlaces place n now = placed_still place n rows now (omega arith) c.requires.has_places in
    let e : v q + (v b - v q) ≡ v b = omega (arith, c.requires.rising.climbs q b (omega arith) (omega arith)) in
    let last = c.divide.new.rows in
    let D = divided_placed place n now P _ b (omega arith) (v q) (v b - v q) (v b) e (rw (c.from-row.ensures, c.from-e.ensures, c.from.ensures) at c.divide.ensures) in
    let A = added_placed place n last (placed_still place n now last (omega arith) P) _ q (omega arith) _ (rw (c.from-row.ensures, c.from-first.ensures) at c.add_up.ensures) in
    changed_twice place n _ _ rows now last c.loop-b.invariant D _ _ _ A (restored_more v q n (placed place rows) b (placed place now) (placed place last) _ (omega arith) (omega arith))

pub returns : goal.returns
returns c =
    let done : c.loop-b.b ≡ c.args.n = omega arith in
    rw done at c.loop-b.invariant
