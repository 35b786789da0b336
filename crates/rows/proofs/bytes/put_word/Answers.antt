-- The low half, and the high half behind it. Assumes nothing.
use Rattle.std.proofs.Common.{◌/◌, ◌^◌}
use Rattle.bits.proofs.BitLaws.{bit_shr}
use Rattle.bits.specs.Bits.{bit}
use Rattle.rows.proofs.StoreLaws.{stored_more}
use Rattle.rows.proofs.bytes.put_word.Goals as goal

pub returns : goal.returns
returns c =
    let x = c.args.x in
    let half = c.put_half.new.dst in
    stored_more c.args.i 4 4 (bit x) (bit (x / 2 ^ 32)) c.args.dst.now half c.put_half-2.new.dst c.put_half.ensures c.put_half-2.ensures (λ p _. bit_shr x 32 p)
