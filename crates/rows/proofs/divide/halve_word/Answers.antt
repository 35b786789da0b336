-- After each turn r times 1 + z ^ d is x times 1 + z ^ e. Assumes nothing.
use Rattle.std.proofs.Common.{arith}
use Rattle.rows.proofs.DivideLaws.{between_more, between_all, word_doubled}
use Rattle.rows.proofs.divide.halve_word.Goals as goal

pub loop-e-preserved : goal.loop-e-preserved
loop-e-preserved c = (omega arith, between_more c.args.d c.loop-e.e c.args.x c.loop-e.r _ c.loop-e.invariant.1 (word_doubled c.loop-e.e c.loop-e.r))

pub returns : goal.returns
returns c = between_all c.args.d c.loop-e.e c.args.x c.loop-e.r (omega arith) c.loop-e.invariant.1
