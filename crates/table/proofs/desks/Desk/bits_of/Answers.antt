-- A source has its own bits, and a parity those that it has by its number. Assumes nothing.
use Prim.Native.Nat.{◌+◌, ◌-◌}
use mathlib.Core.Path.{◌≡◌, ap, ◌∙◌}
use Rattle.table.specs.Desk.{packet_bits}
use Rattle.table.specs.Desks.{desk_of}
use Rattle.table.proofs.PacketLaws.{source_packet_bits}
use native.Mathlib.Omega.{arith}
use borrow.Author.Rules.{rules}
use Rattle.table.proofs.desks.Desk.bits_of.Goals as goal

pub returns-then-i-self : goal.returns-then-i-self
returns-then-i-self c = (c.source_bits.ensures ∙ source_packet_bits (desk_of c.args.self.now) c.args.i (search rules), omega (arith, c.source_bits.ensures, c.args.self.now.within.l_high))

pub returns : goal.returns
returns c =
    let D = c.args.self.now in
    let e : D.k + (c.args.i - D.k) ≡ c.args.i = omega arith in
    (c.bits_of_parity.ensures.0 ∙ ap (packet_bits (desk_of D)) e, c.bits_of_parity.ensures.1)
