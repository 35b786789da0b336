-- The number of eight bytes has their bits. Assumes nothing.
use Rattle.std.proofs.Common.{ap, ◌∙◌, arith}
use Rattle.bits.specs.Bits.{bit_at, Bytes}
use Rattle.rows.proofs.WordLaws.{bit-eight}
use Rattle.rows.proofs.bytes.eight.Goals as goal

pub returns : goal.returns
returns c =
    let at = c.args in
    let h : Bytes at.src.now = λ k. (c.shared_slice_known-1.given k).fits in
    (omega arith, λ t l. bit-eight at.src.now h 0 _ (omega arith) (omega arith) t l ∙ ap (bit_at at.src.now) (omega arith))
