-- One bit of the word in which it stands. Assumes nothing.
use Rattle.std.proofs.Common.{◌≡◌, ◌+◌, ◌*◌, ◌/◌, ◌%◌, sym, ap, ◌∙◌, arith}
use Rattle.bits.specs.Bits.{bit}
use Rattle.rows.specs.Rows.{row_in}
use Rattle.bits.proofs.BitLaws.{bit_lt}
use Rattle.rows.proofs.RowLaws.{row_at}
use Rattle.rows.proofs.bytes.bit_of.Goals as goal

pub returns : goal.returns
unfolding bit
returns c =
    let s = c.args in
    let place : s.p / 64 * 64 + s.p % 64 ≡ s.p = omega arith in
    (sym (row_at s.rows.now s.a (s.p / 64) (s.p % 64) (omega arith) (omega arith)) ∙ ap (row_in s.rows.now s.a) place, bit_lt _ (s.p % 64))
