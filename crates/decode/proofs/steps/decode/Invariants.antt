-- After each turn some order of so many steps leads to g, and what it read stands in the sources; what is left of the parities stays as it was. Assumes nothing.
use Prim.Native.Nat.{◌-◌, ◌≤◌}
use Rattle.table.specs.Desks.{desk_of}
use Rattle.walk.proofs.Totals.{all}
use Rattle.survivors.specs.Remainders.{Roomy}
use Rattle.decode.proofs.StepLaws.{Stepping}
use Rattle.decode.proofs.steps.decode.Given as goal

abbrev pub invariant-loop-p : goal.invariant-loop-p
invariant-loop-p l = (l.row ≤ l.desk.m) × Roomy l.rows × Stepping (desk_of l.desk) l.initial.rows l.g l.count l.rows

abbrev pub decreases-loop-p : goal.decreases-loop-p
decreases-loop-p l = all (desk_of l.desk) - l.count
