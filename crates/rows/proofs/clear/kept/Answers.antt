-- The rest of the division by 2 ^ d is the d lowest bits. Assumes nothing.
use Rattle.std.proofs.Common.{arith}
use Rattle.rows.proofs.ClearFromLaws.{word_none, word_cut}
use Rattle.rows.proofs.clear.kept.Goals as goal

pub returns-then-n-from : goal.returns-then-n-from
returns-then-n-from c t lt = let s = c.args in word_none s.x s.from s.n t lt (omega arith)

pub returns : goal.returns
returns c t lt = let s = c.args in word_cut s.x s.from s.n t lt (omega arith) (omega arith)
