-- The sources are read back into rows of their own, and the packet encoded from them only where none of the numbers is given. Assumes nothing.
use Prim.Native.Nat.{◌*◌}
use Rattle.table.specs.Limits.{max_packets}
use Rattle.rows.specs.Rows.{row_words}
use Rattle.survivors.proofs.SourcesIn.{no_rows}
use Rattle.packet.proofs.read_back.Goals as goal

pub recover-requires-clause-by_index : goal.recover-requires-clause-by_index
recover-requires-clause-by_index c = no_rows (max_packets * row_words)
