-- The bits of a parity are rounded up to whole bytes. Assumes nothing.
use Prim.Native.Nat.{◌+◌, ◌/◌}
use mathlib.Core.Path.{◌≡◌}
use Rattle.table.specs.Desk.{packet_bits, packet_bytes}
use Rattle.table.specs.Desks.{desk_of}
use Rattle.table.proofs.PacketLaws.{parity_packet_bytes}
use native.Mathlib.Omega.{arith}
use Rattle.table.proofs.desks.Desk.bytes_of_parity.Goals as goal

pub returns : goal.returns
returns c =
    let D = desk_of c.args.self.now in
    let i = c.args.self.now.k + c.args.a in
    let whole : (packet_bits D i + 7) / 8 ≡ packet_bytes D i = parity_packet_bytes D i (omega arith) in
    (omega (arith, c.bits_of_parity.ensures.0, whole), omega (arith, c.bits_of_parity.ensures.1))
