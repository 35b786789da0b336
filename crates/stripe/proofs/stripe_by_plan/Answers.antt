-- A one above a last bit decides 9, and what is left 10, and the sources are stored only where neither is given. Assumes nothing.
use mathlib.Core.Path.{refl, ap}
use Prim.Native.Nat.{◌*◌}
use Rattle.table.specs.Limits.{max_packets}
use Rattle.table.specs.Desks.{desk_of}
use Rattle.table.specs.Refusals.{number_of}
use Rattle.table.proofs.RefusalLaws.{numbered}
use Rattle.rows.specs.Rows.{row_words}
use Rattle.survivors.proofs.SourcesIn.{no_rows, sources_in-length}
use Rattle.rebuild.proofs.AnswerLaws.{made_refused, made_done, recovered_stray, recovered_foreign, recovered_done}
use Rattle.stripe.proofs.stripe_by_plan.Goals as goal

pub solve_back-consistent-requires-clause-by_index : goal.solve_back-consistent-requires-clause-by_index
solve_back-consistent-requires-clause-by_index c = no_rows (max_packets * row_words)

pub returns-then-stray : goal.returns-then-stray
returns-then-stray c =
    let s = c.args in
    let bad = c.from.ensures in
    let found = recovered_stray c.solve_back-consistent.ensures refl _ _ s.packets.now (ap number_of bad.0) bad.1 (c.stray.ensures.so c.if-stray.true) in
    made_refused (desk_of s.desk.now) s.packets.now s.out.now _ _ s.packets.now (numbered _) found

pub returns-then-not-consistent : goal.returns-then-not-consistent
returns-then-not-consistent c =
    let s = c.args in
    let bad = c.from-then-not-consistent.ensures in
    let tidy = c.stray.ensures.not_so c.if-stray.false in
    let found = recovered_foreign c.solve_back-consistent.ensures refl tidy _ _ s.packets.now (ap number_of bad.0) bad.1 c.if-not-consistent.true in
    made_refused (desk_of s.desk.now) s.packets.now s.out.now _ _ s.packets.now (numbered _) found

pub returns : goal.returns
returns c =
    let s = c.args in
    let tidy = c.stray.ensures.not_so c.if-stray.false in
    let found = recovered_done c.solve_back-consistent.ensures refl tidy (sources_in-length _ _) c.if-not-consistent.false in
    rw c.source_bits.ensures
    (made_done (desk_of s.desk.now) s.packets.now s.out.now 0 _ _ _ refl c.store_sources.ensures found)
