-- Below the shift nothing stands; from it on stand the source's bits. Assumes nothing.
use mathlib.Core.Path.{◌∙◌}
use native.Mathlib.Omega.{arith}
use Rattle.table.specs.Desks.{desk_of}
use Rattle.decode.proofs.SourceBits.{shifted_low, shifted_here}
use Rattle.decode.proofs.steps.shifted_bit.Goals as goal

pub returns-then-q-e : goal.returns-then-q-e
returns-then-q-e c =
    let e = c.shift_of-e in
    let s = c.args in record {
      value = shifted_low (desk_of s.desk.now) s.rows.now s.a s.c s.q _ e.ensures.0 c.if-q-e.true;
      upper_bound = omega arith;
    }

pub bit_of-requires : goal.bit_of-requires
bit_of-requires c =
    let at = c.requires.a_lt_m in record {
      has_row = omega (arith, at.1, c.args.desk.now.within.k_high, c.requires.roomy);
      p_lt_row_bits = omega (arith, at.2);
    }

pub returns : goal.returns
returns c =
    let x = c.args in record {
      value = c.bit_of.ensures.0 ∙ shifted_here (desk_of x.desk.now) x.rows.now x.a x.c x.q _ c.shift_of-e.ensures.0 c.requires.a_lt_m.1 c.if-q-e.false;
      upper_bound = c.bit_of.ensures.1;
    }
