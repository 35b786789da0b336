-- Refused, the parts of the bad log are handed out. Assumes nothing.
use Rattle.windhawker.proofs.whx_rebuild_log.Goals as goal

pub returns-in-Err : goal.returns-in-Err
returns-in-Err c = rw c.number.ensures c.in-Err.ensures
