-- All unknowns but the last are eliminated; then after each turn one more is restored. Assumes nothing.
use Rattle.std.proofs.Common.{◌≡◌, arith}
use Rattle.bits.specs.Sums.{at}
use Rattle.solve.specs.Solve.{placed}
use Rattle.solve.proofs.PlaceLaws.{changed_none, changed_then}
use Rattle.solve.proofs.EvenRowLaws.{restored_from, restored_next, solved_is}
use Rattle.solve.proofs.solve_rows.Goals as goal

pub loop-q-init : goal.loop-q-init
loop-q-init c =
    let start = c.eliminate_all.new.rows in
    let place = c.args.place.now in
    let n = c.args.n in
    changed_none place n _ start (restored_from (at c.args.rises.now) n c.requires.rising.climbs (placed place start) c.requires.has_places.some)

pub loop-q-preserved : goal.loop-q-preserved
loop-q-preserved c =
    let start = c.eliminate_all.new.rows in
    let place = c.args.place.now in
    let n = c.args.n in
    let now = c.loop-q.rows in
    changed_then place n _ _ start now _ c.loop-q.invariant c.restore.ensures _
    (restored_next (at c.args.rises.now) n c.requires.rising.climbs (placed place start) c.loop-q.q (placed place now) _ (omega arith) (omega arith))

pub returns : goal.returns
returns c =
    let start = c.eliminate_all.new.rows in
    let place = c.args.place.now in
    let rows = c.args.rows.now in
    let n = c.args.n in
    let now = c.loop-q.rows in
    let done : c.loop-q.q ≡ 0 = omega arith in
    changed_then place n _ _ rows start now c.eliminate_all.ensures (rw done at c.loop-q.invariant) _
    (solved_is (at c.args.rises.now) n c.requires.rising.climbs (placed place rows) (placed place start) (placed place now))
