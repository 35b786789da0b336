-- Parity after parity is put in its place, after those that stand there. Assumes nothing.
use Rattle.std.proofs.Common.{◌≡◌, ◌+◌, ◌∙◌, arith}
use Rattle.table.specs.Desks.{desk_of}
use Rattle.table.proofs.PacketLaws.{parities_from, parities_more}
use Rattle.code.proofs.RowLaws.{stand_none, stand_more, stand_all, parities_grow}
use Rattle.code.proofs.encode_parities.Goals as goal

pub loop-a-init : goal.loop-a-init
loop-a-init c =
    let s = c.args in
    (parities_from _, omega arith, stand_none (desk_of s.desk.now) s.sources.now s.out.now)

pub put_parity-requires-clause-n_in_bounds : goal.put_parity-requires-clause-n_in_bounds
put_parity-requires-clause-n_in_bounds c =
    let D = desk_of c.args.desk.now in
    let ends = parities_grow D c.args.sources.now (c.loop-a.a + 1) c.args.desk.now.m (omega arith) in
    omega (arith, c.loop-a.invariant.0, c.bytes_of_parity-n.ensures.0, c.requires.out_len, parities_more D c.loop-a.a, ends)

pub loop-a-preserved : goal.loop-a-preserved
loop-a-preserved c =
    let n = c.bytes_of_parity-n in
    let s = c.args in
    let D = desk_of s.desk.now in
    let x = s.sources.now in (
      omega (arith, c.loop-a.invariant.0, n.ensures.0, parities_more D c.loop-a.a),
      omega (arith, n.ensures.1),
      stand_more D x c.loop-a.a c.loop-a.out _ c.loop-a.invariant.2 (rw (c.loop-a.invariant.0, n.ensures.0) at c.put_parity.ensures),
    )

pub returns : goal.returns
returns c =
    let D = desk_of c.args.desk.now in
    let done : c.loop-a.a ≡ c.args.desk.now.m = omega arith in
    stand_all D c.args.sources.now c.loop-a.out c.known.ensures c.requires.sources_len (c.loop-a.auto.out ∙ c.requires.out_len) (rw done at c.loop-a.invariant.2)
