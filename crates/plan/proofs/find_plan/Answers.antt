-- Both lists, and the way found. Assumes nothing.
use native.Mathlib.Omega.{arith}
use Rattle.table.specs.Desks.{desk_of}
use Rattle.plan.proofs.ListedLaws.{lists_listed}
use Rattle.plan.proofs.HeldLaws.{held_of_desk}
use Rattle.plan.proofs.Planned.{plan_found}
use Rattle.plan.proofs.find_plan.Goals as goal

pub returns : goal.returns
returns c =
    let d = c.args.desk.now in
    let missing = c.args.missing.now in
    let held = rw c.if-held-missing.false at c.list_held-held.ensures in
    plan_found (desk_of d) c.list_held-held.result.rows missing.columns missing.count c.find_way.result (omega (arith, c.if-missing-eq0.false)) (held_of_desk d.k d.m d.marks _ _ _ _ _ held)
    (lists_listed d.k d.marks missing.columns missing.count c.requires.all_missing) c.find_way.ensures
