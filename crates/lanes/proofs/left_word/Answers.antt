-- At first the word has the parity's bit of every stripe; then from one source to the next what is known of it is taken out, by XOR. Assumes nothing.
use Prim.Native.Nat.{◌+◌}
use native.Mathlib.Omega.{arith}
use Rattle.table.specs.Desks.{desk_of}
use Rattle.code.proofs.CodeLaws.{packet_fits}
use Rattle.lanes.proofs.PlaceLaws.{BitFound, bit_found}
use Rattle.lanes.proofs.LeftLaws.{left_none, left_more, left-all}
use Rattle.lanes.proofs.left_word.Goals as goal
use Rattle.lanes.proofs.left_word.Goals.{Start}

-- bit q of the parity, in its place
found : (c : Start) → let s = c.args in
    BitFound s.log.now (s.log.now.desk.now.k + s.a) s.q
found c =
    let D = desk_of c.args.log.now.desk.now in
    let held = c.requires.held in
    bit_found c.args.log.now (c.args.log.now.desk.now.k + c.args.a) c.args.q (omega (arith, held.0)) held.1 (omega (arith, c.requires.q_bound, packet_fits D c.args.a))

pub overflow_add-log : goal.overflow_add-log
overflow_add-log c = omega (arith, (found (goal.at.overflow_add-log c).Start).low)

pub gather-word-requires : goal.gather-word-requires
gather-word-requires c = (found (goal.at.gather-word-requires c).Start).inside

pub loop-c-init : goal.loop-c-init
loop-c-init c =
    let s = c.args in
    let D = desk_of s.log.now.desk.now in
    left_none D s.log.now.packets.now s.lanes.now s.log.now.stripes s.a s.q c.gather-word.result ((found (goal.at.loop-c-init c).Start).arrived c.gather-word.result c.gather-word.ensures)

pub loop-c-preserved : goal.loop-c-preserved
loop-c-preserved c =
    let s = c.args in
    let D = desk_of s.log.now.desk.now in
    left_more D s.log.now.packets.now s.lanes.now s.log.now.stripes s.a s.q c.loop-c.c c.loop-c.word c.source_word-word.result c.loop-c.invariant c.source_word-word.ensures

pub returns : goal.returns
returns c =
    let s = c.args in
    let D = desk_of s.log.now.desk.now in
    left-all D s.log.now.packets.now s.lanes.now s.log.now.stripes s.a s.q c.loop-c.c c.loop-c.word (omega arith) c.loop-c.invariant
