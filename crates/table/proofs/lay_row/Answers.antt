-- Entry after entry of the row stands in its cell, and no other cell is touched. Assumes nothing.
use mathlib.Core.Path.{◌≡◌, subst}
use Rattle.table.specs.Table.{RowLaid}
use Rattle.table.proofs.TableLaws.{row_laid_none, row_laid_more}
use native.Mathlib.Omega.{arith}
use Rattle.table.proofs.lay_row.Goals as goal

pub loop-b-init : goal.loop-b-init
loop-b-init c = let s = c.args in row_laid_none s.k s.table.now s.a s.shifts.now

pub loop-b-preserved : goal.loop-b-preserved
loop-b-preserved c =
    row_laid_more c.args.k c.args.table.now c.args.a c.loop-b.b c.args.shifts.now c.loop-b.shifts (omega (arith, c.requires.k_le_max_k, c.requires.shifts_len))
    c.loop-b.invariant

pub returns : goal.returns
returns c =
    let s = c.args in
    let e : c.loop-b.b ≡ s.k = omega arith in
    subst (λ n. RowLaid s.k s.table.now s.a n s.shifts.now c.loop-b.shifts) e c.loop-b.invariant
