-- Divided by 1 + z ^ d the row is y shifted up by e. Assumes nothing.
use Rattle.std.proofs.Common.{◌+◌, sym, ◌∙◌, arith}
use native.Mathlib.Decide.{dec_lt}
use Rattle.bits.specs.Bits.{up}
use Rattle.bits.proofs.UpLaws.{up_at, up_lt}
use Rattle.rows.specs.Rows.{row_bits}
use Rattle.rows.proofs.RowLaws.{row_past}
use Rattle.rows.proofs.DivideLaws.{raised-twice}
use Rattle.rows.proofs.divide.divide.Goals as goal

pub returns : goal.returns
returns c =
    let s = c.args in
    record {
      here = λ y small clear made p lp.
          let raised = c.halve.ensures.here (up s.e y) (λ q. up_lt s.e y q small) (λ q lq. made q lq ∙ raised-twice s.e s.d y q) in
          c.lower.ensures.here p lp ∙ elim (dec_lt (s.e + p) row_bits) [
            | yes l ↦ raised (s.e + p) l ∙ up_at s.e y p
            | no l ↦ row_past c.halve.new.rows s.a (s.e + p) (omega arith) ∙ sym (clear p (omega arith))
          ];
      others = λ b p ne. c.lower.ensures.others b p ne ∙ c.halve.ensures.others b p ne;
    }
