-- The marks so far are those of the numbers passed, from the last on.
use lib.ListN.{take, drop}
use Rattle.sheet.specs.Steps.{Marked}
use Rattle.sheet.proofs.steps.marks_of.Given as goal

abbrev pub invariant-loop-i : goal.invariant-loop-i
invariant-loop-i l = Marked (drop l.i (take l.k l.ids)) l.marks
