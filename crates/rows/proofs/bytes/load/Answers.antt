-- From the row's first word on, bytes are added as they are. Assumes nothing.
use Rattle.std.proofs.Common.{◌+◌, ◌*◌, ◌%◌, ap, ◌∙◌, arith}
use Rattle.bits.specs.Sums.{one_at}
use Rattle.bits.specs.Bits.{bit_at}
use Rattle.bits.proofs.UpLaws.{up_from}
use Rattle.rows.specs.Rows.{row_in}
use Rattle.rows.proofs.bytes.load.Goals as goal

pub returns : goal.returns
returns c b p lp =
    let s = c.args in
    let f = bit_at s.src.now in
    c.add_whole.ensures b p lp
    ∙ ap (λ x. (row_in s.rows.now b p + one_at s.a b * x) % 2) (up_from (0 * 64) f p (omega arith) ∙ ap f (omega arith))
