-- Row after row is laid and measured, and the others stay. Assumes nothing.
use Prim.Native.Nat.{ℕ, ◌+◌, ◌*◌, ◌/◌, ◌%◌}
use mathlib.Core.Path.{◌≡◌, ◌∙◌}
use native.Mathlib.Decide.{dec_lt}
use lib.ListN.{length-set}
use native.Mathlib.Omega.{arith}
use Rattle.bits.specs.Sums.{at}
use Rattle.table.specs.Desk.{entry, most}
use Rattle.table.specs.Limits.{max_k}
use Rattle.table.proofs.PacketLaws.{most_same}
use Rattle.table.proofs.TableLaws.{filled_more, entry_in, entry_below, rows_laid_more, rows_laid_below}
use Rattle.table.proofs.packets.lay_rows.Goals as goal

pub loop-a-preserved : goal.loop-a-preserved
loop-a-preserved c =
    let s = c.args in
    let R = c.lay_row.ensures in
    let below = c.loop-a.invariant.1 in
    let cells : ℕ → ℕ = λ b. at s.table.now (c.loop-a.a * s.k + b) in
    let found : c.largest.result ≡ most s.k cells = c.largest.ensures.0 in
    let row = entry s.k s.table.now c.loop-a.a in
    let e : c.largest.result ≡ most s.k row = found ∙ most_same s.k cells row (λ b l. entry_in s.k s.table.now c.loop-a.a b l) in (
      rows_laid_more s.k s.table.now c.loop-a.a c.loop-a.shifts _ c.requires.k_le_max_k.0 R below c.loop-a.invariant.0,
      rows_laid_below s.k s.table.now c.loop-a.a c.loop-a.shifts _ c.requires.k_le_max_k.0 R below,
      simp length-set c.loop-a.invariant.2,
      filled_more _ c.loop-a.reaches c.loop-a.a c.largest.result (omega arith) c.loop-a.invariant.3 e,
    )

pub returns-clause-laid : goal.returns-clause-laid
returns-clause-laid c i l =
    elim (dec_lt i (c.loop-a.a * max_k)) [
      | yes h ↦ c.loop-a.invariant.0 i h
      | no h ↦ c.loop-a.invariant.1 i (omega arith) ∙ entry_below c.args.k c.args.m c.args.table.now (i / max_k) (i % max_k) c.requires.k_le_max_k.2 (omega arith)
    ]
