-- What is left where the source's next bit stands in the parity is that bit, and the source has none there yet. Assumes nothing.
use Prim.Native.Nat.{◌+◌, ◌<◌}
use mathlib.Core.Path.{ap, ◌∙◌}
use native.Mathlib.Omega.{arith}
use Rattle.table.specs.Desks.{desk_of}
use Rattle.table.proofs.Bounds.{within_bounds}
use Rattle.rows.specs.Rows.{row_bits}
use Rattle.walk.specs.Read.{put}
use Rattle.survivors.specs.Remainders.{source_in}
use Rattle.decode.specs.Data.{left_bit}
use Rattle.decode.proofs.SourceBits.{source-put, rests_kept}
use Rattle.decode.proofs.steps.take_bit.Goals as goal
use Rattle.decode.proofs.steps.take_bit.Goals.{Start}

-- the bit stands within a row
in_row : (c : Start) → c.args.g < row_bits
in_row c = let W = within_bounds c.args.desk.now in omega (arith, c.requires.parity_lt_m.2, W.bits_high)

pub returns : goal.returns
returns c =
    let s = c.args in
    let D = desk_of s.desk.now in
    let x = s.rows.now in
    let w = c.left_bit-v.result in
    let lw : w < 2 = omega (arith, c.left_bit-v.ensures) in
    let at = c.requires.parity_lt_m in
    record {
      source =
          source-put D x _ s.p.source s.g w at.1 (in_row (goal.at.returns c).Start) lw c.requires.g_value c.flip.ensures
          ∙ ap (put (source_in D x) s.p.source s.g) (c.left_bit-v.ensures ∙ ap (λ y. left_bit D x s.p.parity (y + s.g)) c.shift_of-e.ensures.0);
      rests = rests_kept D x _ s.p.source s.g w at.1 (in_row (goal.at.returns c).Start) lw c.requires.g_value c.flip.ensures;
    }
