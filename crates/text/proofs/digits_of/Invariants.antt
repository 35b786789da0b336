-- What is left and the digits written after it are the number.
use Prim.Native.Nat.{◌+◌, ◌^◌, ◌<◌}
use mathlib.Core.Path.{◌≡◌}
use mathlib.Core.List.{◌++◌}
use lib.ListN.{length, drop}
use Rattle.text.specs.Numerals.{numeral, max_digits}
use Rattle.text.proofs.digits_of.Given as goal

abbrev pub invariant-loop-left : goal.invariant-loop-left
invariant-loop-left l = (l.start < max_digits) × (length l.text ≡ max_digits) × (l.left < 10 ^ (l.start + 1)) × (numeral l.n ≡ numeral l.left ++ drop (l.start + 1) l.text)

abbrev pub decreases-loop-left : goal.decreases-loop-left
decreases-loop-left l = l.left
