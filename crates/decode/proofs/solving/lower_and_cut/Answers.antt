-- Shifted down first: what is cut then is past the end. Assumes nothing.
use Rattle.decode.proofs.LoadLaws.{lower_then_cut}
use Rattle.decode.proofs.solving.lower_and_cut.Goals as goal

pub returns : goal.returns
returns c =
    let s = c.args in
    lower_then_cut s.a s.e s.n s.rows.now _ _ c.lower.ensures c.clear_from.ensures
