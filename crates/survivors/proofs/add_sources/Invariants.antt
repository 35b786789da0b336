-- From one marked source to the next each is added to the row, shifted up by its entry. Assumes nothing.
use Prim.Native.Nat.{◌-◌}
use Rattle.survivors.specs.Remainders.{Roomy}
use Rattle.survivors.proofs.RestLaws.{SourcesBelow}
use Rattle.survivors.proofs.add_sources.Given as goal

abbrev pub invariant-loop-b : goal.invariant-loop-b
invariant-loop-b l = Roomy l.rows × SourcesBelow l.desk l.a l.marks l.initial.rows l.b l.rows

abbrev pub decreases-loop-b : goal.decreases-loop-b
decreases-loop-b l = l.desk.k - l.b
