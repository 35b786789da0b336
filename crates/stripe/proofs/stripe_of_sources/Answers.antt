-- A one above a last bit decides 9; else the packets, which are the sources, encode to themselves. Assumes nothing.
use mathlib.Core.Path.{sym, ap, subst}
use native.Mathlib.Omega.{arith}
use Rattle.table.specs.Desks.{desk_of}
use Rattle.table.specs.Refusals.{number_of}
use Rattle.code.proofs.CodeLaws.{shape_short}
use Rattle.rebuild.specs.Stages.{RebuildMade}
use Rattle.rebuild.proofs.NoneMissing.{place-all, finishes_at_once, own_sources}
use Rattle.stripe.proofs.CandidateLaws.{candidate_stray, candidate_done}
use Rattle.stripe.proofs.stripe_of_sources.Goals as goal

pub returns-then-stray : goal.returns-then-stray
returns-then-stray c =
    let D = desk_of c.args.desk.now in
    let alone = c.requires.sources_alone in
    let bad = c.from.ensures in
    candidate_stray D c.args.packets.now c.args.out.now 0 (finishes_at_once D alone.here alone.no_parity) _ _ (ap number_of bad.0) bad.1 (c.stray.ensures.so c.if-stray.true)

pub copy_front-requires : goal.copy_front-requires
copy_front-requires c =
    let alone = c.requires.sources_alone in
    omega (arith, c.requires.survivors, c.requires.out_len, place-all (desk_of c.args.desk.now) alone.here alone.no_parity)

pub returns : goal.returns
returns c =
    let D = desk_of c.args.desk.now in
    let packets = c.args.packets.now in
    let alone = c.requires.sources_alone in
    let tidy = c.stray.ensures.not_so c.if-stray.false in
    let own = own_sources D alone.here alone.no_parity packets (shape_short c.args.desk.now packets) c.known.ensures c.requires.survivors in
    subst (RebuildMade D packets c.args.out.now 0 0) (sym c.copy_front.ensures)
    (candidate_done D packets c.args.out.now 0 (finishes_at_once D alone.here alone.no_parity) tidy packets c.requires.out_len own.size c.known.ensures own.same)
