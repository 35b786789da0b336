-- Each byte is put behind those below it. Assumes nothing.
use Rattle.std.proofs.Common.{refl, arith}
use Rattle.rows.proofs.StoreLaws.{stored_byte}
use Rattle.rows.proofs.bytes.put_tail.Goals as goal

pub loop-j-preserved : goal.loop-j-preserved
loop-j-preserved c = stored_byte c.args.i c.loop-j.j c.args.x _ _ c.args.dst.now c.loop-j.dst (omega arith) refl refl c.loop-j.invariant
