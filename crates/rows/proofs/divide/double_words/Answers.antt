-- To each word itself is added, shifted up; the words not yet reached are as they were. Assumes nothing.
use Rattle.std.proofs.Common.{arith}
use Rattle.rows.proofs.DivideLaws.{doubled_more, doubled_all}
use Rattle.rows.proofs.divide.double_words.Goals as goal

pub loop-c-preserved : goal.loop-c-preserved
loop-c-preserved c =
    let s = c.args in
    doubled_more s.a s.e s.rows.now c.loop-c.rows c.loop-c.c (omega arith) (omega arith) c.loop-c.invariant

pub returns : goal.returns
returns c =
    let s = c.args in
    doubled_all s.a s.e s.rows.now c.loop-c.rows c.loop-c.c (omega arith) c.loop-c.invariant
