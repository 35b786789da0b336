-- After each turn the first i steps are led to g; a step that is not bare is then the first bad one, and at the end the whole list is led. Assumes nothing.
use Rattle.table.specs.Desks.{desk_of}
use Rattle.steps.proofs.StepLaws.{Following}
use Rattle.steps.proofs.follow.Given as goal

abbrev pub invariant-loop-i : goal.invariant-loop-i
invariant-loop-i l = Following (desk_of l.desk) l.parities l.sources l.i l.g
