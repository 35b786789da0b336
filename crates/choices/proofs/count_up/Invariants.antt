-- Each place passed holds the next number, counted from x.
use Prim.Native.Nat.{◌-◌}
use mathlib.Core.Path.{◌≡◌}
use mathlib.Core.List.{◌++◌}
use lib.ListN.{take, drop}
use Rattle.choices.specs.Choices.{run}
use Rattle.choices.proofs.count_up.Given as goal

abbrev pub invariant-loop-at : goal.invariant-loop-at
invariant-loop-at l = l.out ≡ take l.i l.fn.ids ++ run l.x (l.at - l.i) ++ drop l.at l.fn.ids
