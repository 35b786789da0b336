-- The sheet is the list of its rule's sixty-four values, by computing. Assumes nothing.
use mathlib.Core.Path.{refl}
use Rattle.table.specs.Table.{house_cell}
use Rattle.table.specs.Limits.{cells}
use Rattle.table.proofs.Tabulated.{tabulated-at}
use Rattle.table.proofs.Table.house.Goals as goal

pub returns : goal.returns
returns c = (refl, refl, λ i l. tabulated-at house_cell cells i l)
