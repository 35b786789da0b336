-- The places of the parities add up, one parity after the other. Assumes nothing.
use Rattle.table.specs.Desks.{desk_of}
use Rattle.table.proofs.PacketLaws.{parities_from, parities_more}
use native.Mathlib.Omega.{arith}
use Rattle.table.proofs.desks.Desk.bytes_of_parities.Goals as goal

pub loop-a-init : goal.loop-a-init
loop-a-init c = (parities_from _, omega arith)

pub loop-a-preserved : goal.loop-a-preserved
loop-a-preserved c =
    let s = c.args in
    let next = parities_more (desk_of s.self.now) c.loop-a.a in
    (omega (arith, c.loop-a.invariant.0, c.bytes_of_parity-total.ensures.0, next), omega (arith, c.bytes_of_parity-total.ensures.1))
