-- One block where the packet fits in one, else as many as its length tells. Assumes nothing.
use mathlib.Core.Path.{sym, ap, ◌∙◌}
use Prim.Native.Nat.{◌-◌, ◌/◌, ◌≤◌}
use native.Mathlib.Omega.{arith}
use native.Mathlib.Nat.{div-le_self}
use lib.ListN.{length}
use Rattle.card.proofs.IBlocks.{block_length}
use Rattle.chain.proofs.CutLaws.{cut_last, cut_length}
use Rattle.chain.proofs.writing.blocks_length.Goals as goal
use Rattle.chain.proofs.writing.blocks_length.Goals.{Else-packet-size}

-- there are no more blocks than bytes
few : (c : Else-packet-size) → let s = c.args in (length s.packet.now - 1) / s.size ≤ length s.packet.now - 1
few c = let s = c.args in div-le_self (length s.packet.now - 1) s.size

pub returns-then-packet-size : goal.returns-then-packet-size
returns-then-packet-size c =
    let s = c.args in
    let packet = s.packet.now in
    sym (ap length (cut_last (length packet) 0 s.size packet c.if-packet-size.true) ∙ block_length 0 0 packet)

pub overflow_add-result-2 : goal.overflow_add-result-2
overflow_add-result-2 c = omega (arith, few (goal.at.overflow_add-result-2 c).Else-packet-size)

pub overflow_mul-result : goal.overflow_mul-result
overflow_mul-result c = omega (arith, few (goal.at.overflow_mul-result c).Else-packet-size)

pub overflow_add-result-3 : goal.overflow_add-result-3
overflow_add-result-3 c = omega (arith, few (goal.at.overflow_add-result-3 c).Else-packet-size)

pub returns : goal.returns
returns c = let s = c.args in sym (cut_length s.size s.packet.now c.requires.0)
