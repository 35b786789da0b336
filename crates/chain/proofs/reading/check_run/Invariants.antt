-- What the blocks that are left decide, the whole run decides; and each turn a block with M is behind. Assumes nothing.
use lib.ListN.{length}
use Rattle.chain.proofs.ReadingLaws.{Checking}
use Rattle.chain.proofs.reading.check_run.Given as goal

abbrev pub invariant-loop-block : goal.invariant-loop-block
invariant-loop-block l = Checking l.run l.left l.turn l.joined

abbrev pub decreases-loop-block : goal.decreases-loop-block
decreases-loop-block l = length l.left
