-- The shape decides 1, 2 and 3, the stripes 25, the marks 6 and 7; and over the desk with these marks the rest is decided. Assumes nothing.
use mathlib.Core.Path.{refl}
use mathlib.Core.List.{◌++◌}
use Prim.Native.Nat.{◌+◌}
use Rattle.table.specs.Desk.{desk}
use Rattle.table.specs.Checks.{Checked, shape_checks, stripes_checks, marks_checks}
use Rattle.table.specs.Refusals.{number_of}
use Rattle.table.proofs.CheckLaws.{numbered_by, below_by, none_above}
use Rattle.table.proofs.MarkLaws.{none_left}
use Rattle.table.proofs.DeskLaws.{remarked_stands, remarked_ready}
use Rattle.checks.proofs.OpenLaws.{of_numbers, at-desk}
use Rattle.stripe.specs.Parts.{log_number, log_good, log_count}
use Rattle.whole_log.specs.Stages.{log_lent_checks, LogLent, log_striped_checks}
use Rattle.whole_log.proofs.StageLaws.{checks_early, stripes_early, log_stops, log_goes}
use Rattle.whole_log.proofs.rebuild_log.Goals as goal

pub returns-in_err-desk : goal.returns-in_err-desk
returns-in_err-desk c =
    let s = c.args in
    let E = desk s.k s.m s.l s.table.now s.marks in
    let shape = shape_checks s.k s.m s.l s.table.now in
    let O = c.in_err-desk.ensures in
    log_stops E s.stripes s.packets.now s.out.now shape (log_striped_checks E s.stripes s.packets.now s.marks s.out.now) _ _
    O.numbered (checks_early shape _ (below_by 8 shape refl) O.numbered) c.from_residual.ensures.1

pub returns-in_err-check_stripes : goal.returns-in_err-check_stripes
returns-in_err-check_stripes c =
    let s = c.args in
    let E = desk s.k s.m s.l s.table.now s.marks in
    let shape = shape_checks s.k s.m s.l s.table.now in
    let few = stripes_checks s.stripes in
    let rest = marks_checks s.k s.m s.marks ++ log_lent_checks E s.stripes s.packets.now s.out.now in
    let bad = c.in_err-check_stripes.ensures in
    log_goes E s.stripes s.packets.now s.out.now shape (few ++ rest) _ _ _ _ (numbered_by shape refl) c.in_ok-desk.ensures.numbered
    (log_stops E s.stripes s.packets.now s.out.now few rest _ _ bad (stripes_early s.stripes _ bad) c.from_residual-in_err-check_stripes.ensures.1)

pub returns-in_err-check_marks : goal.returns-in_err-check_marks
returns-in_err-check_marks c =
    let s = c.args in
    let E = desk s.k s.m s.l s.table.now s.marks in
    let O = c.in_ok-desk.ensures in
    let shape = shape_checks s.k s.m s.l s.table.now in
    let few = stripes_checks s.stripes in
    let marks = marks_checks s.k s.m s.marks in
    let lent = log_lent_checks E s.stripes s.packets.now s.out.now in
    let n = number_of c.in_err-check_marks.field-0.0 in
    let bad : Checked marks n = of_numbers (O.accepted _ refl) (λ k m _ _. Checked (marks_checks k m s.marks) n) c.in_err-check_marks.ensures in
    log_goes E s.stripes s.packets.now s.out.now shape (few ++ marks ++ lent) _ _ _ _ (numbered_by shape refl) O.numbered
    (log_goes E s.stripes s.packets.now s.out.now few (marks ++ lent) _ _ _ _ (numbered_by few refl) c.in_ok-check_stripes.ensures
    (log_stops E s.stripes s.packets.now s.out.now marks lent _ _ bad (checks_early marks _ (below_by 8 marks refl) bad) c.from_residual-in_err-check_marks.ensures.1))

pub log_lent-requires-clause-ready : goal.log_lent-requires-clause-ready
log_lent-requires-clause-ready c =
    let d = c.in_ok-desk.desk in
    remarked_ready c.args.marks d _ c.put_marks.ensures (none_left (d.k + d.m) c.args.marks (none_above d.k d.m c.args.marks c.in_ok-check_marks.ensures))

pub returns : goal.returns
returns c =
    let s = c.args in
    let E = desk s.k s.m s.l s.table.now s.marks in
    let O = c.in_ok-desk.ensures in
    let shape = shape_checks s.k s.m s.l s.table.now in
    let few = stripes_checks s.stripes in
    let marks = marks_checks s.k s.m s.marks in
    let lent = log_lent_checks E s.stripes s.packets.now s.out.now in
    let r = c.log_lent.result in
    let good : Checked marks 0 = of_numbers (O.accepted _ refl) (λ k m _ _. Checked (marks_checks k m s.marks) 0) c.in_ok-check_marks.ensures in
    let own = at-desk (remarked_stands s.k s.m s.l s.table.now 0 s.marks _ _ (O.accepted _ refl) c.put_marks.ensures)
    (λ _ D. LogLent D s.stripes s.packets.now s.out.now (log_number r) (log_good s.stripes r) (log_count r) c.log_lent.new.out) c.log_lent.ensures in
    log_goes E s.stripes s.packets.now s.out.now shape (few ++ marks ++ lent) _ _ _ _ (numbered_by shape refl) O.numbered
    (log_goes E s.stripes s.packets.now s.out.now few (marks ++ lent) _ _ _ _ (numbered_by few refl) c.in_ok-check_stripes.ensures
    (log_goes E s.stripes s.packets.now s.out.now marks lent _ _ _ _ (numbered_by marks refl) good own))
