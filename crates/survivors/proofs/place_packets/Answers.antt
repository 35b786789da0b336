-- The packets at hand follow one another without gaps: where one ends the next that is present begins, and each is put into its row. Assumes nothing.
use Prim.Native.Nat.{◌+◌, ◌-◌, ◌≤◌}
use mathlib.Core.Path.{◌≡◌, ap}
use native.Mathlib.Omega.{arith}
use lib.ListN.{length, length-take}
use Rattle.table.specs.Limits.{longest}
use Rattle.table.specs.Desk.{packet_bytes}
use Rattle.table.specs.Desks.{desk_of}
use Rattle.survivors.proofs.AtHand.{at_first, at_room, at_next}
use Rattle.survivors.proofs.PlaceLaws.{placed_first, placed_next, placed_last}
use Rattle.survivors.proofs.place_packets.Goals as goal
use Rattle.survivors.proofs.place_packets.Goals.{After-bytes_of}

pub loop-i-init : goal.loop-i-init
loop-i-init c =
    let N = c.next_present-i.ensures in (
      c.requires.roomy,
      at_first (desk_of c.args.desk.now) c.args.desk.now.marks _ _ N,
      placed_first c.args.desk.now c.args.packets.now _ N c.args.rows.now c.requires.by_index,
    )

-- the packet stands within the packets
room : (c : After-bytes_of) → c.loop-i.from + c.bytes_of.result ≤ length c.args.packets.now
room c =
    let D = desk_of c.args.desk.now in
    omega (arith, c.requires.survivors, c.bytes_of.ensures.0, at_room D c.args.desk.now.marks _ _ _ c.loop-i.invariant.1 c.loop-i-test.true)

pub overflow_add-end : goal.overflow_add-end
overflow_add-end c = omega (arith, room (goal.at.overflow_add-end c).After-bytes_of)

pub slice_bounds-load-end : goal.slice_bounds-load-end
slice_bounds-load-end c = omega (arith, room (goal.at.slice_bounds-load-end c).After-bytes_of)

pub load-requires : goal.load-requires
load-requires c =
    let w = c.args.desk.now.within in
    let size : c.loop-i.from + c.bytes_of.result - c.loop-i.from ≤ longest = omega (arith, c.bytes_of.ensures.1) in record {
      has_row = omega (arith, c.loop-i.invariant.0, w.k_high, w.m_high, c.loop-i-test.true);
      src_bound = simp length-take (omega (arith, size));
    }

pub loop-i-smaller : goal.loop-i-smaller
loop-i-smaller c = let N = c.next_present-i-in-loop-i.ensures in omega (arith, N.from)

pub loop-i-preserved : goal.loop-i-preserved
loop-i-preserved c =
    let D = desk_of c.args.desk.now in
    let A = c.loop-i.invariant.1 in
    let N = c.next_present-i-in-loop-i.ensures in
    let end : c.loop-i.from + c.bytes_of.result ≡ c.loop-i.from + packet_bytes D c.loop-i.i = ap (λ x. c.loop-i.from + x) c.bytes_of.ensures.0 in (
      omega (arith, c.loop-i.invariant.0),
      at_next D c.args.desk.now.marks _ _ _ A c.loop-i-test.true _ _ end N,
      placed_next c.args.desk.now c.args.packets.now _ _ _ _ A c.loop-i-test.true end N c.loop-i.rows _ c.loop-i.invariant.2 c.load.ensures,
    )

pub returns : goal.returns
returns c =
    let e : c.loop-i.i ≡ c.args.desk.now.k + c.args.desk.now.m = omega (arith, c.loop-i.invariant.1.most) in
    placed_last c.args.desk.now c.args.packets.now c.requires.ready _ e c.loop-i.rows c.loop-i.invariant.2
