-- The packet is made into room that every packet fits, and the two are as long. Assumes nothing.
use mathlib.Core.Path.{◌≡◌, sym, ap, ◌∙◌}
use Prim.Native.Nat.{◌≤◌}
use native.Mathlib.Omega.{arith}
use lib.ListN.{length, length-append}
use lib.Seq.{length-take-le}
use Rattle.table.specs.Limits.{longest}
use Rattle.table.specs.Desks.{desk_of}
use Rattle.table.proofs.Bounds.{within_bounds}
use Rattle.code.proofs.CodeLaws.{packet_size}
use Rattle.encode.proofs.SameLaws.{packet_fits_room}
use Rattle.encode.proofs.same_packet.Goals as goal
use Rattle.encode.proofs.same_packet.Goals.{After-encode_packet, After-made-2-1, Start}

-- the packet fits the room for the one that is made
fits : (c : Start) → length c.args.packet.now ≤ longest
fits c =
    let d = c.args.desk.now in
    omega (arith, c.requires.packet_len, packet_fits_room (desk_of d) (within_bounds d) c.args.i)

pub slice_bounds-made-end : goal.slice_bounds-made-end
slice_bounds-made-end c = fits (goal.at.slice_bounds-made-end c).Start

pub slice_bounds-encode_packet-end : goal.slice_bounds-encode_packet-end
slice_bounds-encode_packet-end c = sym (length-take-le _ _ (fits (goal.at.slice_bounds-encode_packet-end c).Start))

pub encode_packet-requires-clause-out_len : goal.encode_packet-requires-clause-out_len
encode_packet-requires-clause-out_len c = length-take-le _ _ (fits (goal.at.encode_packet-requires-clause-out_len c).Start) ∙ c.requires.packet_len

-- what was made is as long as the packet
as_long : (c : After-encode_packet) → length c.encode_packet.new.out ≡ length c.args.packet.now
as_long c =
    let D = desk_of c.args.desk.now in
    ap length c.encode_packet.ensures ∙ packet_size D c.args.sources.now c.requires.sources_len c.args.i ∙ sym c.requires.packet_len

pub slice_bounds-made-end-2 : goal.slice_bounds-made-end-2
slice_bounds-made-end-2 c = simp length-append (omega (arith, as_long (goal.at.slice_bounds-made-end-2 c).After-encode_packet))

pub slice_bounds-same-end : goal.slice_bounds-same-end
slice_bounds-same-end c = sym (length-take-le _ _ (simp length-append (omega (arith, as_long (goal.at.slice_bounds-same-end c).After-encode_packet))))
