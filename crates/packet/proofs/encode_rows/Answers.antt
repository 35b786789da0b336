-- Whether a source or a parity, its row holds the packet before it is stored. Assumes nothing.
use Prim.Native.Nat.{◌+◌, ◌<◌}
use native.Mathlib.Omega.{arith}
use Rattle.table.specs.Desks.{desk_of}
use Rattle.table.proofs.Bounds.{Bounded, within_bounds}
use Rattle.code.proofs.CodeLaws.{shape_short}
use Rattle.packet.proofs.PacketRows.{its_mark, no_mark_after, packet_held, packet_in_row, packet_stored}
use Rattle.packet.proofs.encode_rows.Goals as goal
use Rattle.packet.proofs.encode_rows.Goals.{Start}

bounds : (s : Start) → Bounded (desk_of s.args.desk.now)
bounds s = within_bounds s.args.desk.now

few : (s : Start) → s.args.i < 64
few s = omega (arith, s.requires.i_bound, s.args.desk.now.within.k_high, s.args.desk.now.within.m_high)

pub overflow_shl-i : goal.overflow_shl-i
overflow_shl-i c = few (goal.at.overflow_shl-i c).Start

pub add_to_rests-requires : goal.add_to_rests-requires
add_to_rests-requires c =
    let w = c.args.desk.now.within in record {
      m_value = no_mark_after c.args.i (c.args.desk.now.k + c.args.desk.now.m) c.requires.i_bound (omega (arith, w.k_high, w.m_high));
      roomy = omega (arith, c.requires.roomy);
    }

pub store-requires : goal.store-requires
store-requires c =
    let w = c.args.desk.now.within in
    let fits = packet_in_row (desk_of c.args.desk.now) (bounds (goal.at.store-requires c).Start) c.args.i in record {
      has_row = omega (arith, c.requires.i_bound, c.requires.roomy, w.k_high, w.m_high);
      n_le_longest = omega (arith, c.requires.out_len, fits);
      n_in_bounds = omega arith;
    }

pub returns : goal.returns
returns c =
    let D = desk_of c.args.desk.now in
    let i = c.args.i in
    let rows = c.args.rows.now in
    let short = shape_short c.args.desk.now _ in
    let held = packet_held D rows (bounds (goal.at.returns c).Start) short c.requires.in_bytes c.requires.no_rest _ _ c.add_to_rests.ensures i c.requires.i_bound
    (its_mark i (few (goal.at.returns c).Start)) in
    packet_stored D rows i _ c.args.out.now _ held c.requires.out_len c.known.ensures c.store.ensures
