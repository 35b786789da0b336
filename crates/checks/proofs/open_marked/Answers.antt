-- What the shape refuses stays refused; the marks are looked at next, and past them the opened desk is the call's. Assumes nothing.
use mathlib.Core.Path.{◌≡◌, refl, sym, subst}
use mathlib.Core.List.{◌++◌}
use borrow.Author.Rules.{rules}
use Rattle.std.specs.Prelude.{Err}
use Rattle.table.specs.Checks.{Checked, shape_checks, marks_checks}
use Rattle.table.specs.Refusals.{number_of}
use Rattle.table.specs.Desks.{Stands}
use Rattle.table.proofs.CheckLaws.{numbered_by, goes}
use Rattle.table.proofs.RefusalLaws.{ok_inj}
use Rattle.table.proofs.DeskLaws.{remarked_stands}
use Rattle.checks.specs.Opening.{Opens}
use Rattle.checks.proofs.OpenLaws.{opens_refused, of_numbers}
use Rattle.checks.proofs.open_marked.Goals as goal

pub returns-in_err-check_marks : goal.returns-in_err-check_marks
returns-in_err-check_marks c =
    let s = c.args in
    let O = c.in_ok-desk.ensures in
    let shape = shape_checks s.k s.m s.l s.table.now in
    let n = number_of c.in_err-check_marks.field-0.0 in
    let m : Checked (marks_checks s.k s.m s.marks) n = of_numbers (O.accepted _ refl) (λ k m l marks. Checked (marks_checks k m s.marks) n) c.in_err-check_marks.ensures in
    let e : c.from_residual-in_err-check_marks.result ≡ Err c.in_err-check_marks.field-0.0 = search rules in
    subst (λ r. Opens (shape ++ marks_checks s.k s.m s.marks) s.k s.m s.l s.table.now s.marks r) (sym e)
    (opens_refused _ (goes shape (marks_checks s.k s.m s.marks) _ (numbered_by shape refl) O.numbered m))

pub returns : goal.returns
returns c =
    let s = c.args in
    let O = c.in_ok-desk.ensures in
    let shape = shape_checks s.k s.m s.l s.table.now in
    let m : Checked (marks_checks s.k s.m s.marks) 0 = of_numbers (O.accepted _ refl) (λ k m l marks. Checked (marks_checks k m s.marks) 0) c.in_ok-check_marks.ensures in
    record {
      numbered = goes shape (marks_checks s.k s.m s.marks) 0 (numbered_by shape refl) O.numbered m;
      accepted = λ d z. subst (Stands s.k s.m s.l s.table.now s.marks) (ok_inj z) (remarked_stands s.k s.m s.l s.table.now 0 s.marks _ _ (O.accepted _ refl) c.put_marks.ensures);
    }
