-- Where the shape is refused there is no place; else what is left decides, over its desk. Assumes nothing.
use mathlib.Core.Path.{◌≡◌, refl, sym, subst}
use borrow.Author.Rules.{rules}
use Rattle.std.specs.Prelude.{Ok, Err}
use Rattle.table.specs.Desk.{desk}
use Rattle.table.specs.Desks.{Stands, desk_of}
use Rattle.table.specs.Checks.{shape_checks}
use Rattle.table.specs.Refusals.{told}
use Rattle.table.proofs.AnswerLaws.{answer_refused, answer_done}
use Rattle.table.proofs.RefusalLaws.{numbered, ok_inj, refused_stops}
use Rattle.checks.specs.Opening.{Opens}
use Rattle.look.specs.Stages.{buffers_checks, found_checks}
use Rattle.look.specs.Places.{number_of, buffer_told, start_told, length_told}
use Rattle.look.specs.Promise.{LookedAt}
use Rattle.look.proofs.LookLaws.{look_asked, look_goes}
use Rattle.look.proofs.look_at.Goals as goal
use Rattle.look.proofs.look_at.Goals.{After-lay}

-- the shape is accepted, and the desk is laid
opened : (c : After-lay) → let s = c.args in Opens (shape_checks s.k s.m s.l s.table.now) s.k s.m s.l s.table.now 0 (Ok c.lay.new.self)
opened c =
    let s = c.args in
    record { numbered = c.in_ok-check_shape.ensures; accepted = λ d z. subst (Stands s.k s.m s.l s.table.now 0) (ok_inj z) c.lay.ensures }

pub returns-in_err-check_shape : goal.returns-in_err-check_shape
returns-in_err-check_shape c =
    let s = c.args in
    let e = c.in_err-check_shape in
    let rest = found_checks (desk s.k s.m s.l s.table.now s.marks) s.marks s.source s.survivors.now s.rebuilt.now in
    let r : c.from_residual.result ≡ Err e.field-0.0 = search rules in
    rw r (refused_stops (shape_checks s.k s.m s.l s.table.now) rest e.field-0.0 e.ensures (refl, refl, refl))

pub returns-in_err-check_asked : goal.returns-in_err-check_asked
returns-in_err-check_asked c =
    let s = c.args in
    let e = c.in_err-check_asked in
    let r : c.from_residual-in_err-check_asked.result ≡ Err e.field-0.0 = search rules in
    subst (λ r. LookedAt s.k s.m s.l s.table.now s.marks s.source s.survivors.now s.rebuilt.now (told r) (buffer_told r) (start_told r) (length_told r)) (sym r)
    (look_asked (opened (goal.at.returns-in_err-check_asked c).After-lay) s.marks s.source s.survivors.now s.rebuilt.now e.field-0.0 e.ensures)

pub returns-in_err-check_buffers : goal.returns-in_err-check_buffers
returns-in_err-check_buffers c =
    let s = c.args in
    let e = c.in_err-check_buffers in
    let r : c.from_residual-in_err-check_buffers.result ≡ Err e.field-0.0 = search rules in
    subst (λ r. LookedAt s.k s.m s.l s.table.now s.marks s.source s.survivors.now s.rebuilt.now (told r) (buffer_told r) (start_told r) (length_told r)) (sym r)
    (look_goes (opened (goal.at.returns-in_err-check_buffers c).After-lay) s.marks s.source s.survivors.now s.rebuilt.now c.in_ok-check_asked.ensures c.put_marks.ensures _ 0 0 0
    (answer_refused (buffers_checks (desk_of c.put_marks.new.self) s.survivors.now s.rebuilt.now) _ _ e.ensures (numbered e.field-0.0) refl (refl, refl, refl)))

pub returns : goal.returns
returns c =
    let s = c.args in
    look_goes (opened (goal.at.returns c).After-lay) s.marks s.source s.survivors.now s.rebuilt.now c.in_ok-check_asked.ensures c.put_marks.ensures 0 (number_of c.standing.result.buffer) _ _
    (answer_done (buffers_checks (desk_of c.put_marks.new.self) s.survivors.now s.rebuilt.now) 0 c.in_ok-check_buffers.ensures refl c.standing.ensures)
