-- What was cut and what is left to cut are the packet's blocks, in order; the last one is the one without M. Assumes nothing.
use lib.ListN.{length}
use Rattle.chain.proofs.WritingLaws.{CuttingLeft}
use Rattle.chain.proofs.writing.cut.Given as goal

abbrev pub invariant-loop-left : goal.invariant-loop-left
invariant-loop-left l = CuttingLeft l.size l.packet l.initial.dest l.left l.end l.turn l.dest

abbrev pub decreases-loop-left : goal.decreases-loop-left
decreases-loop-left l = length l.left
