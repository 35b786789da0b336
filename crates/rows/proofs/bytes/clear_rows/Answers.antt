-- All words are put into one, which is 0 if each of them is. Assumes nothing.
use Rattle.std.proofs.Common.{arith}
use Rattle.rows.proofs.ClearLaws.{gathered_more, gathered_all}
use Rattle.rows.proofs.bytes.clear_rows.Goals as goal

pub loop-i-preserved : goal.loop-i-preserved
loop-i-preserved c =
    let s = c.args in
    gathered_more s.rows.now s.a s.n c.loop-i.i c.loop-i.x (omega arith) (omega arith) (c.shared_slice_known-1.given c.loop-i.i).fits c.loop-i.invariant

pub returns : goal.returns
returns c =
    let s = c.args in
    gathered_all s.rows.now s.a s.n c.loop-i.i c.loop-i.x (omega arith) c.loop-i.invariant
