-- The end of the steps decides 8, a one above a last bit 9, and what is left 10. Assumes nothing.
use mathlib.Core.Path.{ap}
use borrow.Author.Tests.{not-true, not-false}
use Rattle.table.specs.Refusals.{number_of}
use Rattle.survivors.proofs.SourcesIn.{sources_in-length}
use Rattle.rebuild.proofs.AnswerLaws.{recovered_stalled, recovered_stray, recovered_foreign, recovered_done}
use Rattle.rebuild.proofs.recover.Goals as goal

pub returns-then-not-d-clause-recovered : goal.returns-then-not-d-clause-recovered
returns-then-not-d-clause-recovered c = recovered_stalled c.read_back-d.ensures.read_back _ (not-true _ c.if-not-d.true)

pub returns-then-stray-clause-recovered : goal.returns-then-stray-clause-recovered
returns-then-stray-clause-recovered c =
    let e = c.from.ensures in
    recovered_stray c.read_back-d.ensures.read_back (not-false _ c.if-not-d.false) _ _ _ (ap number_of e.0) e.1 (c.stray.ensures.so c.if-stray.true)

pub returns-then-not-d-2-clause-recovered : goal.returns-then-not-d-2-clause-recovered
returns-then-not-d-2-clause-recovered c =
    let e = c.from-then-not-d-2.ensures in
    recovered_foreign c.read_back-d.ensures.read_back (not-false _ c.if-not-d.false) (c.stray.ensures.not_so c.if-stray.false) _ _ _ (ap number_of e.0) e.1
    (not-true _ c.if-not-d-2.true)

pub returns-clause-recovered : goal.returns-clause-recovered
returns-clause-recovered c =
    recovered_done c.read_back-d.ensures.read_back (not-false _ c.if-not-d.false) (c.stray.ensures.not_so c.if-stray.false) (sources_in-length _ _)
    (not-false _ c.if-not-d-2.false)
