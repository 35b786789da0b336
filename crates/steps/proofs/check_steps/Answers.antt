-- Refused with its shape, its marks or its lists' lengths a call tells no place; else the steps of its own desk are followed. Assumes nothing.
use mathlib.Core.Path.{◌≡◌, refl}
use mathlib.Core.List.{◌++◌}
use native.Mathlib.Omega.{arith}
use Rattle.table.specs.Desk.{Desk, desk}
use Rattle.table.specs.Desks.{desk_of}
use Rattle.table.specs.Checks.{marked_checks}
use Rattle.table.specs.Refusals.{number_of}
use Rattle.table.proofs.CheckLaws.{numbered_by, below_by, checked_below}
use Rattle.table.proofs.AnswerLaws.{answer_goes, answer_stops}
use Rattle.table.proofs.RefusalLaws.{numbered}
use Rattle.checks.proofs.OpenLaws.{opened_goes}
use Rattle.steps.specs.Steps.{Complete}
use Rattle.steps.specs.Promise.{unequal_checks, follow_checks, PlaceTold}
use Rattle.steps.specs.Parts.{steps_number, steps_place}
use Rattle.steps.proofs.StepLaws.{told_nowhere, refused_nowhere}
use Rattle.steps.proofs.check_steps.Goals as goal

pub returns-in_err-desk : goal.returns-in_err-desk
returns-in_err-desk c =
    let x = c.args in
    let ps = x.parities.now in
    let ss = x.sources.now in
    let cs = marked_checks x.k x.m x.l x.table.now x.marks in
    let D = desk x.k x.m x.l x.table.now x.marks in
    let O = c.in_err-desk.ensures in
    let e = c.in_err-desk.field-0.0 in
    let r = c.from_residual.result in
    let w = refused_nowhere r e c.from_residual.ensures.1 in
    let low = checked_below 23 cs (number_of e) (omega arith) (below_by 23 cs refl) O.numbered in
    answer_stops cs (unequal_checks ps ss ++ follow_checks D ps ss) (number_of e) (steps_number r) O.numbered (numbered e) w.0
    (told_nowhere D ps ss (steps_number r) (steps_place r) (omega (arith, low, w.0)) w.1)

pub returns-in_err-check_as_long : goal.returns-in_err-check_as_long
returns-in_err-check_as_long c =
    let x = c.args in
    let ps = x.parities.now in
    let ss = x.sources.now in
    let cs = marked_checks x.k x.m x.l x.table.now x.marks in
    let D = desk x.k x.m x.l x.table.now x.marks in
    let lists = unequal_checks ps ss in
    let steps = follow_checks D ps ss in
    let e = c.in_err-check_as_long.field-0.0 in
    let r = c.from_residual-in_err-check_as_long.result in
    let w = refused_nowhere r e c.from_residual-in_err-check_as_long.ensures.1 in
    let low = checked_below 23 lists (number_of e) (omega arith) (below_by 23 lists refl) c.in_err-check_as_long.ensures in
    answer_goes cs (lists ++ steps) (steps_number r) (numbered_by cs refl) c.in_ok-desk.ensures.numbered
    (answer_stops lists steps (number_of e) (steps_number r) c.in_err-check_as_long.ensures (numbered e) w.0 (told_nowhere D ps ss (steps_number r) (steps_place r) (omega (arith, low, w.0)) w.1))

pub returns : goal.returns
returns c =
    let x = c.args in
    let ps = x.parities.now in
    let ss = x.sources.now in
    let O = c.in_ok-desk.ensures in
    let r = c.follow.result in
    let cs = marked_checks x.k x.m x.l x.table.now x.marks in
    let lists = unequal_checks ps ss in
    let D = desk_of c.in_ok-desk.desk in
    let checked = answer_goes lists (follow_checks D ps ss) (steps_number r) (numbered_by lists refl) c.in_ok-check_as_long.ensures c.follow.ensures in
    opened_goes (O.accepted _ refl) cs (numbered_by cs refl) O.numbered (λ _ (D : Desk). lists ++ follow_checks D ps ss)
    (λ (D : Desk). PlaceTold D ps ss (steps_number r) (steps_place r)) (λ (D : Desk). Complete D ps ss × (steps_place r ≡ 0)) (steps_number r) checked
