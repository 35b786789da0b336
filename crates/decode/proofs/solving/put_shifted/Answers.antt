-- One shift, up or down, by what one is more than the other. Assumes nothing.
use native.Mathlib.Omega.{arith}
use Rattle.decode.proofs.LoadLaws.{put_up, put_down}
use Rattle.decode.proofs.solving.put_shifted.Goals as goal

pub returns-then-d-e : goal.returns-then-d-e
returns-then-d-e c =
    let a = c.args in
    put_up a.a a.b a.e a.d a.rows.now c.requires.by_index _ (omega arith) c.add_up.ensures

pub returns : goal.returns
returns c =
    let a = c.args in
    put_down a.a a.b a.e a.d a.rows.now c.requires.by_index _ _ (omega arith) c.add_up-2.ensures c.lower.ensures
