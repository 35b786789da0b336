-- The packets are put into their rows, the present sources added to the rows at hand, the missing ones uncovered and added too: nothing is left in any row exactly if sources encode to the packets.
-- Assumes nothing.
use mathlib.Core.Path.{refl}
use native.Mathlib.Omega.{arith}
use Rattle.table.proofs.Bounds.{within_bounds}
use Rattle.code.proofs.CodeLaws.{shape_short}
use Rattle.survivors.proofs.AtHand.{held_in}
use Rattle.decode.proofs.EndLaws.{known_blank, ended}
use Rattle.decode.proofs.read_by.Goals as goal

pub uncover-d-requires : goal.uncover-d-requires
uncover-d-requires g c =
    let W = within_bounds c.args.desk.now in
    c.requires.takes _ (omega (arith, c.requires.roomy)) (known_blank c.args.desk.now c.args.packets.now W _ _ c.place_packets.ensures c.add_to_rests.ensures)

pub returns : goal.returns
returns g c =
    let z = c.args.desk.now in
    let W = within_bounds z in
    let d = c.uncover-d.result in
    let end = ended z c.args.packets.now W (omega arith) (held_in z.marks z.k z.m c.requires.ready)
    (shape_short z)
    _ _ _ _ c.place_packets.ensures c.add_to_rests.ensures d.count d.whole (c.requires.uncovers _ _ _ c.uncover-d.ensures) c.add_to_rests-2.ensures in record {
      made = (_, _, _, c.uncover-d.ensures, refl, refl);
      read_back = end.read c.known.ensures c.requires.survivors c.clear_rows-consistent.result c.clear_rows-consistent.ensures;
      in_bytes = (end.short, λ e. end.nothing (c.clear_rows-consistent.ensures.so e));
    }
