-- Below the source and past its bytes stand noughts; between them the bit is in the stripes where the source is present, and in its lane where it is missing. Assumes nothing.
use Prim.Native.Nat.{◌+◌, ◌-◌, ◌*◌, ◌<◌}
use mathlib.Core.Path.{sym, ◌∙◌}
use native.Mathlib.Omega.{arith}
use Rattle.table.specs.Limits.{max_bits}
use Rattle.table.specs.Desks.{desk_of}
use Rattle.table.proofs.Bounds.{within_bounds}
use Rattle.table.proofs.PacketLaws.{source_packet_bytes}
use Rattle.lanes.proofs.PlaceLaws.{BitFound, bit_found}
use Rattle.lanes.specs.Lanes.{lane_words}
use Rattle.lanes.proofs.KnownLaws.{word_in}
use Rattle.lanes.proofs.LeftLaws.{word_low, word_past, word_present, word_missing}
use Rattle.lanes.proofs.source_word.Goals as goal
use Rattle.lanes.proofs.source_word.Goals.{Else-marked, Then-marked}

pub returns-then-q-e : goal.returns-then-q-e
returns-then-q-e c =
    let s = c.args in
    let D = desk_of s.log.now.desk.now in
    word_low D s.log.now.packets.now s.lanes.now s.log.now.stripes s.a s.c s.q (omega (arith, c.if-q-e.true, c.shift_of-e.ensures.0))

pub returns-then-source_bytes-p : goal.returns-then-source_bytes-p
returns-then-source_bytes-p c =
    let D = desk_of c.args.log.now.desk.now in
    word_past D c.args.log.now.packets.now c.args.lanes.now c.args.log.now.stripes c.args.a c.args.c c.args.q c.requires.a_lt_m.1
    (omega (arith, c.if-source_bytes-p.true, c.source_bytes.ensures, c.if-q-e.false, c.shift_of-e.ensures.0))

-- bit q - e of a present source, in its place
found : (c : Then-marked) → let s = c.args in
    BitFound s.log.now s.c (s.q - c.shift_of-e.result)
found c =
    let D = desk_of c.args.log.now.desk.now in
    let lc = c.requires.a_lt_m.1 in
    bit_found c.args.log.now c.args.c (c.args.q - c.shift_of-e.result) (omega (arith, lc)) (sym c.marked.ensures ∙ c.if-marked.true)
    (omega (arith, c.if-source_bytes-p.false, c.source_bytes.ensures, source_packet_bytes D c.args.c lc))

pub gather-requires : goal.gather-requires
gather-requires c = (found (goal.at.gather-requires c).Then-marked).inside

pub returns-then-marked : goal.returns-then-marked
returns-then-marked c =
    let D = desk_of c.args.log.now.desk.now in
    word_present D c.args.log.now.packets.now c.args.lanes.now c.args.log.now.stripes c.args.a c.args.c c.args.q (c.args.q - c.shift_of-e.result)
    (omega (arith, c.if-q-e.false, c.shift_of-e.ensures.0)) c.requires.a_lt_m.1 (sym c.marked.ensures ∙ c.if-marked.true) c.gather.result
    ((found (goal.at.returns-then-marked c).Then-marked).arrived c.gather.result c.gather.ensures)

-- bit q - e of a missing source has a word
in_words : (c : Else-marked) → let s = c.args in
    s.c * max_bits + (s.q - c.shift_of-e.result) < lane_words
in_words c =
    word_in (desk_of c.args.log.now.desk.now) (within_bounds c.args.log.now.desk.now) c.args.c (c.args.q - c.shift_of-e.result) c.requires.a_lt_m.1
    (omega (arith, c.if-source_bytes-p.false, c.source_bytes.ensures))

pub overflow_mul-result : goal.overflow_mul-result
overflow_mul-result c = omega (arith, in_words (goal.at.overflow_mul-result c).Else-marked)

pub overflow_add-result : goal.overflow_add-result
overflow_add-result c = omega (arith, in_words (goal.at.overflow_add-result c).Else-marked)

pub offset_bounds-lanes-c : goal.offset_bounds-lanes-c
offset_bounds-lanes-c c = omega (arith, in_words (goal.at.offset_bounds-lanes-c c).Else-marked)

pub bounds-lanes-c : goal.bounds-lanes-c
bounds-lanes-c c = omega (arith, in_words (goal.at.bounds-lanes-c c).Else-marked, c.requires.lanes_len)

pub returns : goal.returns
returns c =
    let D = desk_of c.args.log.now.desk.now in
    word_missing D c.args.log.now.packets.now c.args.lanes.now c.args.log.now.stripes c.args.a c.args.c c.args.q (c.args.q - c.shift_of-e.result)
    (omega (arith, c.if-q-e.false, c.shift_of-e.ensures.0)) (c.requires.a_lt_m.1, sym c.marked.ensures ∙ c.if-marked.false)
    (omega (arith, c.if-source_bytes-p.false, c.source_bytes.ensures))
