-- After i turns dst is src's first i bytes, and then its own.
use mathlib.Core.Path.{◌≡◌}
use mathlib.Core.List.{◌++◌}
use lib.ListN.{length, take, drop}
use Rattle.bits.proofs.copy_front.Given as goal

abbrev pub invariant-loop-i : goal.invariant-loop-i
invariant-loop-i l = (l.dst ≡ take l.i l.src ++ drop l.i l.initial.dst) × (length l.dst ≡ length l.initial.dst)
