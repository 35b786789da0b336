-- A source has its own bytes, and a parity those that it has by its number. Assumes nothing.
use Prim.Native.Nat.{◌+◌, ◌-◌}
use mathlib.Core.Path.{◌≡◌, ap, ◌∙◌}
use Rattle.table.specs.Desk.{packet_bytes}
use Rattle.table.specs.Desks.{desk_of}
use Rattle.table.proofs.PacketLaws.{source_packet_bytes}
use native.Mathlib.Omega.{arith}
use borrow.Author.Rules.{rules}
use Rattle.table.proofs.desks.Desk.bytes_of.Goals as goal

pub returns-then-i-self : goal.returns-then-i-self
returns-then-i-self c = (c.source_bytes.ensures ∙ source_packet_bytes (desk_of c.args.self.now) c.args.i (search rules), omega (arith, c.source_bytes.ensures, c.args.self.now.within.l_high))

pub returns : goal.returns
returns c =
    let D = c.args.self.now in
    let e : D.k + (c.args.i - D.k) ≡ c.args.i = omega arith in
    (c.bytes_of_parity.ensures.0 ∙ ap (packet_bytes (desk_of D)) e, c.bytes_of_parity.ensures.1)
