-- The packets at hand follow one another without gaps, so the first that differs decides, and if none does they are those of the sources. Assumes nothing.
use Prim.Native.Nat.{◌+◌, ◌-◌, ◌≤◌}
use mathlib.Core.Path.{◌≡◌, subst}
use native.Mathlib.Omega.{arith}
use borrow.Author.Rules.{rules}
use lib.ListN.{length}
use Rattle.bits.specs.Bits.{Tells, slice}
use Rattle.bits.proofs.BitLaws.{tells_so, tells_not}
use Rattle.table.specs.Desk.{packet_bytes}
use Rattle.table.specs.Desks.{desk_of}
use Rattle.code.specs.Code.{packet_of}
use Rattle.encode.proofs.SameLaws.{same_first, same_room, same_next, same_here, same_last}
use Rattle.encode.proofs.same_packets.Goals as goal
use Rattle.encode.proofs.same_packets.Goals.{After-bytes_of, After-same_packet}

pub loop-i-init : goal.loop-i-init
loop-i-init c =
    let s = c.args in
    same_first s.desk.now s.sources.now s.packets.now _ c.next_present-i.ensures

-- the packet at hand stands within the packets
room : (c : After-bytes_of)
    → c.loop-i.from + c.bytes_of.result ≤ length c.args.packets.now
room c =
    let a = c.args in
    omega (arith, c.requires.survivors, c.bytes_of.ensures.0, same_room a.desk.now a.sources.now a.packets.now _ _ c.loop-i.invariant c.loop-i-test.true)

-- the test tells whether it is that of the sources
told : (c : After-same_packet)
    → let s = c.args in
    let D = desk_of s.desk.now in
    Tells c.same_packet.result (slice s.packets.now c.loop-i.from (packet_bytes D c.loop-i.i) ≡ packet_of D s.sources.now c.loop-i.i)
told c =
    let s = c.args in
    let D = desk_of s.desk.now in
    let as_many : c.loop-i.from + c.bytes_of.result - c.loop-i.from ≡ packet_bytes D c.loop-i.i = omega (arith, c.bytes_of.ensures.0) in
    subst (λ n. Tells c.same_packet.result (slice s.packets.now c.loop-i.from n ≡ packet_of D s.sources.now c.loop-i.i)) as_many c.same_packet.ensures

pub overflow_add-end : goal.overflow_add-end
overflow_add-end c = omega (arith, room (goal.at.overflow_add-end c).After-bytes_of)

pub slice_bounds-same_packet-end : goal.slice_bounds-same_packet-end
slice_bounds-same_packet-end c = omega (arith, room (goal.at.slice_bounds-same_packet-end c).After-bytes_of)

pub returns-then-not-same_packet : goal.returns-then-not-same_packet
returns-then-not-same_packet c =
    let a = c.args in
    tells_not (λ same. (told (goal.at.returns-then-not-same_packet c).After-same_packet).not_so c.if-not-same_packet.true
    (same_here a.desk.now a.sources.now a.packets.now _ _ c.loop-i.invariant c.loop-i-test.true c.requires.sources_len same))

pub loop-i-preserved : goal.loop-i-preserved
loop-i-preserved c =
    let a = c.args in
    same_next a.desk.now a.sources.now a.packets.now _ _ c.loop-i.invariant c.loop-i-test.true _ _
    (omega (arith, c.bytes_of.ensures.0)) (search rules) ((told (goal.at.loop-i-preserved c).After-same_packet).so c.if-not-same_packet.false)

pub returns : goal.returns
returns c =
    let a = c.args in
    let all : c.loop-i.i ≡ a.desk.now.k + a.desk.now.m = omega (arith, c.loop-i.invariant.most) in
    tells_so (same_last a.desk.now a.sources.now a.packets.now _ _ c.loop-i.invariant all c.requires.sources_len c.requires.survivors)
