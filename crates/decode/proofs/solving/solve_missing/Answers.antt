-- Loaded, solved in the way of the plan, and unloaded. Assumes nothing.
use native.Mathlib.Omega.{arith}
use Rattle.table.specs.Desks.{desk_of}
use Rattle.table.proofs.Bounds.{within_bounds}
use Rattle.decode.proofs.SolvingLaws.{planned_inside, planned_sited, planned_rising, planned_blank, solved_for}
use Rattle.decode.proofs.solving.solve_missing.Goals as goal

pub load-requires : goal.load-requires
load-requires c =
    let a = c.args in
    let P = c.requires.planned in record {
      inside = planned_inside a.desk.now _ _ _ _ _ P;
      sited = planned_sited a.desk.now _ _ _ _ _ P a.rows.now c.requires.roomy;
      roomy = c.requires.roomy;
      by_index = planned_blank a.desk.now _ _ _ _ _ P a.rows.now c.requires.blank;
    }

pub solve_by-requires : goal.solve_by-requires
solve_by-requires c =
    let a = c.args in
    let P = c.requires.planned in record {
      sited = planned_sited a.desk.now _ _ _ _ _ P _ (omega (arith, c.requires.roomy));
      rising = planned_rising a.desk.now _ _ _ _ _ P;
    }

pub unload-requires : goal.unload-requires
unload-requires c =
    let a = c.args in
    let P = c.requires.planned in record {
      inside = planned_inside a.desk.now _ _ _ _ _ P;
      sited = planned_sited a.desk.now _ _ _ _ _ P _ (omega (arith, c.requires.roomy));
    }

pub returns : goal.returns
returns c =
    let a = c.args in
    solved_for (desk_of a.desk.now) (within_bounds a.desk.now) _ _ _ _ _ c.requires.planned a.rows.now _ _ _ c.requires.blank
    c.load.ensures
    c.solve_by.ensures
    c.unload.ensures
