-- What was joined and what is left to join are the run's bytes, in order; the block put last is the one without M. Assumes nothing.
use lib.ListN.{length}
use Rattle.chain.proofs.ReadingLaws.{Joining}
use Rattle.chain.proofs.reading.join.Given as goal

abbrev pub invariant-loop-left : goal.invariant-loop-left
invariant-loop-left l = Joining l.run l.initial.dest l.left l.end l.dest

abbrev pub decreases-loop-left : goal.decreases-loop-left
decreases-loop-left l = length l.left
