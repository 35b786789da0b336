-- The XOR so far and that of what is left make the XOR of all.
use mathlib.Core.Path.{◌≡◌}
use lib.Bits.{bit_xor}
use lib.ListN.{drop}
use Rattle.bits.specs.Bits.{xor_of}
use Rattle.bits.proofs.xor_all.Given as goal

abbrev pub invariant-loop-y : goal.invariant-loop-y
invariant-loop-y l = bit_xor l.x (xor_of (drop l.y-index l.s)) ≡ xor_of l.s
