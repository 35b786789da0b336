-- Row q is added to the rows after it and before row i, and these are divided. Assumes nothing.
use Rattle.std.proofs.Common.{◌≡◌, ◌+◌, ◌-◌, arith}
use Rattle.bits.specs.Sums.{at}
use Rattle.solve.specs.Solve.{placed, HasPlaces}
use Rattle.solve.proofs.PlaceLaws.{placed_still, added_placed, divided_placed, changed_twice}
use Rattle.solve.proofs.EvenColumnLaws.{differenced_more}
use Rattle.solve.proofs.difference.Goals as goal

pub loop-i-preserved : goal.loop-i-preserved
loop-i-preserved c =
    let place = c.args.place.now in
    let rows = c.args.rows.now in
    let v = at c.args.rises.now in
    let n = c.args.n in
    let q = c.args.q in
    let i = c.loop-i.i in
    let now = c.loop-i.rows in
    let P : HasPlaces place n now = placed_still place n rows now (omega arith) c.requires.has_places in
    let e : v q + (v i - v q) ≡ v i = omega (arith, c.requires.rising.climbs q i (omega arith) (omega arith)) in
    let last = c.add_up.new.rows in
    let A = added_placed place n now P last i (omega arith) _ (rw (c.from-row.ensures, c.from-first.ensures) at c.add_up.ensures) in
    let Q = placed_still place n now last (omega arith) P in
    let D = divided_placed place n last Q _ i (omega arith) (v q) (v i - v q) (v i) e (rw (c.from-row.ensures, c.from-e.ensures, c.from.ensures) at c.divide.ensures) in
    changed_twice place n _ _ rows now last c.loop-i.invariant A _ _ _ D (differenced_more v q n (placed place rows) i (placed place now) (placed place last) _ (omega arith) (omega arith))

pub returns : goal.returns
returns c =
    let done : c.loop-i.i ≡ c.args.n = omega arith in
    rw done at c.loop-i.invariant
