-- The rows passed hold the entries of the table, and the rows below hold 0. Assumes nothing.
use Prim.Native.Nat.{◌*◌, ◌/◌, ◌%◌}
use mathlib.Core.Path.{◌∙◌}
use native.Mathlib.Decide.{dec_lt}
use Rattle.table.specs.Limits.{max_k}
use Rattle.table.proofs.TableLaws.{entry_below, rows_laid_more, rows_laid_below}
use native.Mathlib.Omega.{arith}
use Rattle.table.proofs.lay_out.Goals as goal

pub loop-a-preserved : goal.loop-a-preserved
loop-a-preserved c =
    let R = c.lay_row.ensures in
    let below = c.loop-a.invariant.1 in (
      rows_laid_more c.args.k c.args.table.now c.loop-a.a c.loop-a.shifts _ c.requires.k_le_max_k.0 R below c.loop-a.invariant.0,
      rows_laid_below c.args.k c.args.table.now c.loop-a.a c.loop-a.shifts _ c.requires.k_le_max_k.0 R below,
    )

pub returns : goal.returns
returns c i l =
    elim (dec_lt i (c.loop-a.a * max_k)) [
      | yes h ↦ c.loop-a.invariant.0 i h
      | no h ↦ c.loop-a.invariant.1 i (omega arith) ∙ entry_below c.args.k c.args.m c.args.table.now (i / max_k) (i % max_k) c.requires.k_le_max_k.2 (omega arith)
    ]
