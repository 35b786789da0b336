-- No packet passed has a one above its last bit, so the first that has one decides, and if none has there is none. Assumes nothing.
use Prim.Native.Nat.{◌+◌, ◌-◌, ◌≤◌}
use mathlib.Core.Path.{◌≡◌, ap, subst}
use native.Mathlib.Omega.{arith}
use lib.ListN.{length, take, drop}
use Rattle.bits.specs.Bits.{ClearFrom, Tells, slice}
use Rattle.bits.proofs.BitLaws.{tells_so, tells_not}
use Rattle.table.specs.Desk.{packet_bits, packet_bytes}
use Rattle.table.specs.Desks.{desk_of}
use Rattle.survivors.proofs.AtHand.{at_first, at_room, at_next}
use Rattle.survivors.proofs.StrayLaws.{clear_below_first, clear_below_next, clear_below_last, stray_here}
use Rattle.survivors.proofs.stray.Goals as goal
use Rattle.survivors.proofs.stray.Goals.{After-bytes_of, After-clear_above}

pub loop-i-init : goal.loop-i-init
loop-i-init c =
    let s = c.args in
    let N = c.next_present-i.ensures in
    (at_first (desk_of s.desk.now) s.desk.now.marks _ _ N, clear_below_first s.desk.now s.packets.now _ N)

-- the packet stands within the packets
room : (c : After-bytes_of) → c.loop-i.from + c.bytes_of.result ≤ length c.args.packets.now
room c =
    let D = desk_of c.args.desk.now in
    omega (arith, c.requires.survivors, c.bytes_of.ensures.0, at_room D c.args.desk.now.marks _ _ _ c.loop-i.invariant.0 c.loop-i-test.true)

-- the test tells whether it is clear above its last bit
told : (c : After-clear_above)
    → let s = c.args in
    let D = desk_of s.desk.now in
    Tells c.clear_above.result (ClearFrom (slice s.packets.now c.loop-i.from (packet_bytes D c.loop-i.i)) (packet_bits D c.loop-i.i))
told c =
    let s = c.args in
    let D = desk_of s.desk.now in
    let same : c.loop-i.from + c.bytes_of.result - c.loop-i.from ≡ packet_bytes D c.loop-i.i = omega (arith, c.bytes_of.ensures.0) in
    subst (λ x. Tells c.clear_above.result (ClearFrom (slice s.packets.now c.loop-i.from (packet_bytes D c.loop-i.i)) x)) c.bits_of-last.ensures.0
    (subst (λ x. Tells c.clear_above.result (ClearFrom (take x (drop c.loop-i.from s.packets.now)) c.bits_of-last.result)) same c.clear_above.ensures)

pub overflow_add-end : goal.overflow_add-end
overflow_add-end c = omega (arith, room (goal.at.overflow_add-end c).After-bytes_of)

pub slice_bounds-clear_above-end : goal.slice_bounds-clear_above-end
slice_bounds-clear_above-end c = omega (arith, room (goal.at.slice_bounds-clear_above-end c).After-bytes_of)

pub returns-then-not-clear_above : goal.returns-then-not-clear_above
returns-then-not-clear_above c =
    let s = c.args in
    tells_so (stray_here s.desk.now s.packets.now _ _ c.loop-i.invariant.0 c.loop-i-test.true
    ((told (goal.at.returns-then-not-clear_above c).After-clear_above).not_so c.if-not-clear_above.true))

pub loop-i-smaller : goal.loop-i-smaller
loop-i-smaller c = let N = c.next_present-i-in-loop-i.ensures in omega (arith, N.from)

pub loop-i-preserved : goal.loop-i-preserved
loop-i-preserved c =
    let s = c.args in
    let D = desk_of s.desk.now in
    let A = c.loop-i.invariant.0 in
    let N = c.next_present-i-in-loop-i.ensures in (
      at_next D s.desk.now.marks _ _ _ A c.loop-i-test.true _ _ (ap (λ x. c.loop-i.from + x) c.bytes_of.ensures.0) N,
      clear_below_next s.desk.now s.packets.now _ _ A c.loop-i-test.true _ N c.loop-i.invariant.1 ((told (goal.at.loop-i-preserved c).After-clear_above).so c.if-not-clear_above.false),
    )

pub returns : goal.returns
returns c =
    let s = c.args in
    let e : c.loop-i.i ≡ s.desk.now.k + s.desk.now.m = omega (arith, c.loop-i.invariant.0.most) in
    tells_not (clear_below_last s.desk.now s.packets.now _ e c.loop-i.invariant.1)
