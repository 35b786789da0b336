-- The marked sources are added into the row of each parity at hand, from one to the next. Assumes nothing.
use Prim.Native.Nat.{◌+◌, ◌-◌}
use Rattle.table.specs.Desks.{desk_of}
use Rattle.code.specs.Code.{sum_of}
use Rattle.survivors.specs.Remainders.{Roomy, marked_of, source_in}
use Rattle.survivors.proofs.RestLaws.{RestsBelow}
use Rattle.survivors.proofs.add_to_rests.Given as goal

abbrev pub invariant-loop-i : goal.invariant-loop-i
invariant-loop-i l = Roomy l.rows × RestsBelow l.desk l.targets l.i (sum_of (desk_of l.desk) (marked_of l.marks (source_in (desk_of l.desk) l.initial.rows))) l.initial.rows l.rows

abbrev pub decreases-loop-i : goal.decreases-loop-i
decreases-loop-i l = l.desk.k + l.desk.m - l.i
