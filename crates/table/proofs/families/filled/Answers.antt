-- Cell after cell is the family's. Assumes nothing.
use lib.ListN.{length-set}
use native.Mathlib.Omega.{arith}
use Rattle.table.proofs.TableLaws.{filled_more}
use Rattle.table.proofs.families.filled.Goals as goal

pub loop-i-preserved : goal.loop-i-preserved
loop-i-preserved c =
    let inv = c.loop-i.invariant in
    (simp length-set inv.0, filled_more _ c.loop-i.shifts c.loop-i.i c.cell.result (omega arith) inv.1 c.cell.ensures)
