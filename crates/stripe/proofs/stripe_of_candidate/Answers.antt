-- A one above a last bit decides 9, and whether the only candidate encodes to these packets 10. Assumes nothing.
use mathlib.Core.Path.{sym, ap, subst}
use Rattle.table.specs.Desks.{desk_of}
use Rattle.table.specs.Refusals.{number_of}
use Rattle.rebuild.specs.Stages.{RebuildMade}
use Rattle.stripe.proofs.CandidateLaws.{candidate_stray, candidate_foreign, candidate_done}
use Rattle.stripe.proofs.stripe_of_candidate.Goals as goal

pub returns-then-stray : goal.returns-then-stray
returns-then-stray c =
    let D = desk_of c.args.desk.now in
    let bad = c.from.ensures in
    candidate_stray D c.args.packets.now c.args.out.now _ c.requires.finishes _ _ (ap number_of bad.0) bad.1 (c.stray.ensures.so c.if-stray.true)

pub returns-then-not-same_packets : goal.returns-then-not-same_packets
returns-then-not-same_packets c =
    let D = desk_of c.args.desk.now in
    let tidy = c.stray.ensures.not_so c.if-stray.false in
    let other = c.same_packets.ensures.not_so c.if-not-same_packets.true in
    let bad = c.from-then-not-same_packets.ensures in
    candidate_foreign D c.args.packets.now c.args.out.now _ c.requires.finishes tidy c.args.sources.now _ _ (ap number_of bad.0) bad.1 c.requires.by_index other

pub returns : goal.returns
returns c =
    let D = desk_of c.args.desk.now in
    let tidy = c.stray.ensures.not_so c.if-stray.false in
    let same = c.same_packets.ensures.so c.if-not-same_packets.false in
    subst (RebuildMade D c.args.packets.now c.args.out.now 0 _) (sym c.copy_front.ensures)
    (candidate_done D c.args.packets.now c.args.out.now _ c.requires.finishes tidy c.args.sources.now c.requires.out_len c.requires.sources_len c.known.ensures same)
