-- No shift is read, and no number of parities. Assumes nothing.
use Rattle.walk.specs.Compute.{full_b, whole_b}
use Rattle.walk.proofs.is_whole.Goals as goal

pub returns : goal.returns
unfolding whole_b full_b
returns c = c.all_whole.ensures
