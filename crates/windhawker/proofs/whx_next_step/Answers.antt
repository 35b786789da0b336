-- The pair is counted from 1. Assumes nothing.
use Rattle.windhawker.proofs.whx_next_step.Goals as goal

pub returns-in-Some : goal.returns-in-Some
returns-in-Some c = rw c.in-Some.is at c.in-Ok.ensures
