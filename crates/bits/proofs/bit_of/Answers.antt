-- A shift down by p mod 8 brings the bit to the lowest place, and the mask keeps that place alone.
use Rattle.bits.specs.Bits.{bit, bit_at}
use Rattle.bits.proofs.BitLaws.{and_one}
use Rattle.bits.proofs.bit_of.Goals as goal

pub returns : goal.returns
unfolding bit bit_at
returns c = and_one _
