-- A digit at its place in one word, and no bits elsewhere. Assumes nothing.
use Rattle.rows.proofs.ByteRowLaws.{digit_added}
use Rattle.rows.proofs.bytes.flip.Goals as goal

pub returns : goal.returns
returns c = digit_added c.args.a c.args.p c.args.v c.from.result c.args.rows.now c.requires.has_row c.requires.p_lt_row_bits c.requires.v_bound c.from.ensures
