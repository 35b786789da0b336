-- The shape and the marks are checked first, then the progress with the call's own numbers, and the step is made over the call's own desk. Assumes nothing.
use mathlib.Core.Path.{◌≡◌, refl}
use borrow.Author.Rules.{rules}
use Rattle.std.specs.Prelude.{Err}
use Rattle.table.specs.Checks.{Checked, marked_checks, progress_checks}
use Rattle.table.specs.Refusals.{number_of}
use Rattle.table.proofs.CheckLaws.{numbered_by}
use Rattle.table.proofs.AnswerLaws.{answer_goes, answer_refused, answer_done}
use Rattle.table.proofs.RefusalLaws.{numbered}
use Rattle.checks.proofs.OpenLaws.{opened_stops, of_numbers, at-desk}
use Rattle.walk.specs.Walk.{Next}
use Rattle.walk.specs.Parts.{parity_number, source_number}
use Rattle.walk.proofs.next_step.Goals as goal

pub returns-in_err-desk : goal.returns-in_err-desk
returns-in_err-desk c =
    let x = c.args in
    let e : c.from_residual.result ≡ Err c.in_err-desk.field-0.0 = search rules in
    rw e (opened_stops _ c.in_err-desk.ensures (progress_checks x.k x.l x.marks x.progress) (refl, refl, refl))

pub returns : goal.returns
returns c =
    let x = c.args in
    let O = c.in_ok-desk.ensures in
    let S = O.accepted _ refl in
    let r = c.advance.result in
    let cs = marked_checks x.k x.m x.l x.table.now x.marks in
    let ds = progress_checks x.k x.l x.marks x.progress in
    let own = of_numbers S (λ k m l marks. Checked (progress_checks k l marks x.progress) 0) c.in_ok-check_progress.ensures in
    let next = at-desk S (λ _ D. Next D x.progress (parity_number r.pair) (source_number r.pair) r.progress) c.advance.ensures in
    answer_goes cs ds 0 (numbered_by cs refl) O.numbered (answer_done ds 0 own refl next)

pub returns-in_err-check_progress : goal.returns-in_err-check_progress
returns-in_err-check_progress c =
    let x = c.args in
    let O = c.in_ok-desk.ensures in
    let r = c.in_err-check_progress.field-0.0 in
    let e : c.from_residual-in_err-check_progress.result ≡ Err r = search rules in
    let cs = marked_checks x.k x.m x.l x.table.now x.marks in
    let ds = progress_checks x.k x.l x.marks x.progress in
    let own = of_numbers (O.accepted _ refl) (λ k m l marks. Checked (progress_checks k l marks x.progress) (number_of r)) c.in_err-check_progress.ensures in
    rw e (answer_goes cs ds _ (numbered_by cs refl) O.numbered (answer_refused ds (number_of r) _ own (numbered r) refl (refl, refl, refl)))
