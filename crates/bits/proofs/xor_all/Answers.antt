-- The XOR so far and that of what is left make the XOR of all.
use mathlib.Core.Path.{sym, ◌∙◌}
use native.Mathlib.Omega.{arith}
use lib.Bits.{xor_zero_l}
use Rattle.bits.specs.Bits.{xor_of}
use Rattle.bits.proofs.BitLaws.{xor_of_more, xor_of_end}
use Rattle.bits.proofs.xor_all.Goals as goal

pub loop-y-init : goal.loop-y-init
loop-y-init c = xor_zero_l (xor_of c.args.s.now)

pub loop-y-preserved : goal.loop-y-preserved
loop-y-preserved c = xor_of_more c.loop-y.x c.args.s.now c.loop-y.y-index (omega arith) ∙ c.loop-y.invariant

pub returns : goal.returns
returns c = sym (xor_of_end c.loop-y.x c.args.s.now c.loop-y.y-index (omega arith)) ∙ c.loop-y.invariant
