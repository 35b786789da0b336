-- Each byte is put behind the one below it. Assumes nothing.
use Rattle.std.proofs.Common.{◌+◌, ◌%◌, refl, arith, length-set}
use Rattle.rows.proofs.StoreLaws.{stored_none, stored_byte}
use Rattle.rows.proofs.bytes.put_half.Goals as goal

pub bounds-dst-i-2 : goal.bounds-dst-i-2
bounds-dst-i-2 c = simp length-set (omega arith)

pub bounds-dst-i-3 : goal.bounds-dst-i-3
bounds-dst-i-3 c = simp length-set (omega arith)

pub bounds-dst-i-4 : goal.bounds-dst-i-4
bounds-dst-i-4 c = simp length-set (omega arith)

pub returns : goal.returns
returns c =
    let at = c.args in
    let d = at.dst.now in
    let one = stored_byte at.i 0 at.x at.i (at.x % 256) d d (omega arith) (omega arith) (omega arith) (stored_none at.i _ d) in
    let two = stored_byte at.i 1 at.x (at.i + 1) _ d _ (omega arith) refl refl one in
    let three = stored_byte at.i 2 at.x (at.i + 2) _ d _ (omega arith) refl refl two in
    stored_byte at.i 3 at.x (at.i + 3) _ d _ (omega arith) refl refl three
