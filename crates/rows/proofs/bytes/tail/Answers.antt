-- One byte after another, from the last, comes in below those that are there. Assumes nothing.
use Rattle.std.proofs.Common.{◌<◌, ◌-◌, arith}
use Rattle.rows.proofs.WordLaws.{tail_none, tail_room, tail_more}
use Rattle.rows.proofs.bytes.tail.Goals as goal

pub loop-i-init : goal.loop-i-init
loop-i-init c = (c.requires.from_in_bounds, tail_none c.args.src.now)

pub overflow_mul-x : goal.overflow_mul-x
overflow_mul-x c = omega (arith, tail_room _ c.loop-i.i c.loop-i.x (omega arith) c.loop-i.invariant.1)

pub overflow_add-x : goal.overflow_add-x
overflow_add-x c = omega (arith, tail_room _ c.loop-i.i c.loop-i.x (omega arith) c.loop-i.invariant.1, c.from.ensures, (c.type_inv.src (c.loop-i.i - 1)).fits)

pub loop-i-preserved : goal.loop-i-preserved
loop-i-preserved c =
    let i = c.loop-i.i in
    let small : c.from.result < 256 = omega (arith, c.from.ensures, (c.type_inv.src (i - 1)).fits) in
    (omega arith, tail_more c.args.src.now i c.loop-i.x c.from.result (omega arith) (omega arith) c.from.ensures small c.loop-i.invariant.1)
