-- What is passed from the end on is full, so the first number that leaves more room is the last that can grow.
use lib.ListN.{take, drop}
use Rattle.choices.specs.Choices.{Full}
use Rattle.choices.proofs.last_to_grow.Given as goal

abbrev pub invariant-loop-i : goal.invariant-loop-i
invariant-loop-i l = Full l.n (drop l.i (take l.k l.ids))
