-- The packets are the sources, so none of 8, 9 and 10 is given. Assumes nothing.
use mathlib.Core.Path.{◌≡◌, refl, ◌∙◌}
use mathlib.Core.Bool.{false}
use Prim.Native.Nat.{ℕ, ◌+◌}
use Rattle.table.specs.Desk.{mark, sources_bytes, survivors_bytes}
use Rattle.table.specs.Desks.{desk_of}
use Rattle.table.proofs.MarkLaws.{no_mark_above}
use Rattle.table.proofs.AnswerLaws.{answer_done}
use Rattle.code.proofs.CodeLaws.{shape_short}
use Rattle.rebuild.specs.Stages.{decode_checks}
use Rattle.rebuild.proofs.NoneMissing.{sources_alone, place-all, own_sources, nothing_refused}
use Rattle.packet.proofs.packet_of_sources.Goals as goal
use Rattle.packet.proofs.packet_of_sources.Goals.{Start}

-- no parity is at hand, so the packets take as many bytes as the sources
alone : (s : Start) (a : ℕ) → mark s.args.desk.now.marks (s.args.desk.now.k + a) ≡ false
alone s = let d = s.args.desk.now in sources_alone d.k d.m d.marks s.requires.by_index s.requires.exactly_k (no_mark_above (d.k + d.m) d.marks s.requires.ready)

as_long : (s : Start)
    → let D = desk_of s.args.desk.now in
    survivors_bytes D ≡ sources_bytes D
as_long s = place-all (desk_of s.args.desk.now) s.requires.by_index (alone s)

pub encode_packet-requires : goal.encode_packet-requires
encode_packet-requires c =
    record {
      i_bound = c.requires.i_bound;
      sources_len = c.requires.survivors ∙ as_long (goal.at.encode_packet-requires c).Start;
      out_len = c.requires.out_len;
    }

pub returns : goal.returns
returns c =
    let D = desk_of c.args.desk.now in
    let packets = c.args.packets.now in
    let here = c.requires.by_index in
    let short = shape_short c.args.desk.now packets in
    let none = alone (goal.at.returns c).Start in
    answer_done (decode_checks D packets) 0 (nothing_refused D here none packets short c.known.ensures c.requires.survivors) refl
    (packets, own_sources D here none packets short c.known.ensures c.requires.survivors, c.encode_packet.ensures)
