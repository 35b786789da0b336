-- No shift and no mark is read, and no number of parities. Assumes nothing.
use Rattle.survivors.specs.Remainders.{sources_in}
use Rattle.rebuild.proofs.store_sources.Goals as goal

pub returns : goal.returns
unfolding sources_in
returns c = c.put_sources.ensures
