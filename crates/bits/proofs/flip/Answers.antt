-- v, shifted up to the bit's place, is added to its byte.
use Rattle.bits.proofs.BitLaws.{bit_at_flip}
use Rattle.bits.proofs.flip.Goals as goal

pub returns : goal.returns
returns c = bit_at_flip c.args.s.now c.args.p c.args.v c.requires.0 c.requires.1
