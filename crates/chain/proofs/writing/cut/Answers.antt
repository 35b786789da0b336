-- What was cut and what is left to cut are the packet's blocks, in order; the last one is the one without M. Assumes nothing.
use mathlib.Core.Path.{sym, ap, subst, ◌∙◌}
use mathlib.Core.List.{List}
use Prim.Native.Nat.{ℕ, ◌+◌, ◌-◌, ◌≤◌, ◌<◌}
use native.Mathlib.Omega.{arith}
use lib.ListN.{length, take, drop, length-drop}
use lib.Seq.{drop-drop}
use Rattle.chain.specs.Writing.{BlockPut}
use Rattle.chain.proofs.PartLaws.{to_the_end}
use Rattle.chain.proofs.WritingLaws.{Cutting, last_fits, cutting_ends, block_fits, cutting_goes_on}
use Rattle.chain.proofs.writing.cut.Goals as goal

pub put_block-end-requires-clause-info_in_bounds : goal.put_block-end-requires-clause-info_in_bounds
put_block-end-requires-clause-info_in_bounds c =
    let s = c.args in
    let i = c.loop-left.invariant in
    let long : s.size < length s.packet.now - i.0 = omega (arith, ap length i.1, length-drop i.0 s.packet.now, c.loop-left-test.true) in
    rw i.1 (block_fits s.size s.packet.now s.dest.now c.requires.packet_in_bounds i.2 long)

pub loop-left-preserved : goal.loop-left-preserved
loop-left-preserved c =
    let s = c.args in
    let packet = s.packet.now in
    let v = c.loop-left in
    let i = v.invariant in
    let p = c.put_block-end in
    let long : s.size < length packet - i.0 = omega (arith, ap length i.1, length-drop i.0 packet, c.loop-left-test.true) in
    let told = subst (λ (x : List ℕ). BlockPut v.dest v.end v.turn 1 x p.result p.new.dest) (ap (λ (x : List ℕ). take s.size x) i.1) p.ensures in (
      i.0 + s.size,
      to_the_end v.left.now s.size ∙ ap (λ (x : List ℕ). drop s.size x) i.1 ∙ drop-drop s.size i.0 packet,
      subst (λ (n : ℕ). Cutting s.size packet s.dest.now (i.0 + s.size) n (1 - v.turn) p.new.dest) (sym told.0)
          (cutting_goes_on s.size packet s.dest.now c.requires.packet_in_bounds i.2 long c.requires.le_size.0 told.1),
    )

pub put_block-requires-clause-info_in_bounds : goal.put_block-requires-clause-info_in_bounds
put_block-requires-clause-info_in_bounds c =
    let s = c.args in
    let i = c.loop-left.invariant in
    let short : length s.packet.now - i.0 ≤ s.size = omega (arith, ap length i.1, length-drop i.0 s.packet.now, c.loop-left-test.false) in
    rw i.1 (last_fits s.size s.packet.now s.dest.now c.requires.packet_in_bounds i.2 short)

pub returns : goal.returns
returns c =
    let s = c.args in
    let packet = s.packet.now in
    let v = c.loop-left in
    let i = v.invariant in
    let p = c.put_block in
    let short : length packet - i.0 ≤ s.size = omega (arith, ap length i.1, length-drop i.0 packet, c.loop-left-test.false) in
    let told = subst (λ (x : List ℕ). BlockPut v.dest v.end v.turn 0 x p.result p.new.dest) i.1 p.ensures in
    let done = cutting_ends s.size packet s.dest.now c.requires.packet_in_bounds i.2 short told.1 in
    (told.0 ∙ done.0, done.1)
