-- A pair found in a row is bare; where no row has one the walk's own search decides. Assumes nothing.
use Rattle.bits.specs.Sums.{at}
use Rattle.table.specs.Desks.{desk_of}
use Rattle.search.proofs.SearchLaws.{found_or_stuck}
use Rattle.search.proofs.some_pair.Goals as goal

pub returns : goal.returns
returns c = found_or_stuck (desk_of c.args.desk.now) (at c.args.g.now) c.next_pair.result c.next_pair.ensures
