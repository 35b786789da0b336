-- The shape and the marks decide 1, 2, 3, 6 and 7, and over the opened desk the rest is decided. Assumes nothing.
use mathlib.Core.Path.{◌≡◌, refl}
use Rattle.table.specs.Desk.{desk}
use Rattle.table.specs.Checks.{marked_checks}
use Rattle.table.proofs.CheckLaws.{numbered_by, below_by}
use Rattle.checks.proofs.OpenLaws.{opened_goes, opened_ready}
use Rattle.rebuild.specs.Stages.{StepsTold, SourcesFound, rebuild_lent_checks}
use Rattle.rebuild.specs.Parts.{rebuild_number, rebuild_count}
use Rattle.rebuild.proofs.AnswerLaws.{unread_stops}
use Rattle.rebuild.proofs.rebuild.Goals as goal

pub returns-in_err-desk : goal.returns-in_err-desk
returns-in_err-desk c =
    let s = c.args in
    let cs = marked_checks s.k s.m s.l s.table.now s.marks in
    let D = desk s.k s.m s.l s.table.now s.marks in
    unread_stops D cs (rebuild_lent_checks D s.packets.now s.out.now) _ _ (below_by 8 cs refl) c.in_err-desk.ensures.numbered c.from_residual.ensures.1 refl

pub rebuild_lent-requires : goal.rebuild_lent-requires
rebuild_lent-requires c = let O = c.in_ok-desk.ensures in record { ready = opened_ready (O.accepted _ refl) O.numbered }

pub returns : goal.returns
returns c =
    let s = c.args in
    let O = c.in_ok-desk.ensures in
    let r = c.rebuild_lent in
    let cs = marked_checks s.k s.m s.l s.table.now s.marks in
    let after = r.new.out in
    let number = rebuild_number r.result in
    let count = rebuild_count r.result in
    opened_goes (O.accepted _ refl) cs (numbered_by cs refl) O.numbered (λ _ D. rebuild_lent_checks D s.packets.now s.out.now)
    (λ D. (after ≡ s.out.now) × StepsTold D number count) (λ D. SourcesFound D s.packets.now count after) number r.ensures
