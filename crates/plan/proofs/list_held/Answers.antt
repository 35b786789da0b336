-- The parities at hand are the missing sources of the marks turned over. Assumes nothing.
use native.Mathlib.Omega.{arith}
use Rattle.plan.proofs.HeldLaws.{turned_held}
use Rattle.plan.proofs.list_held.Goals as goal

pub returns : goal.returns
returns c =
    let a = c.args in
    turned_held a.k a.m a.marks c.list_missing-held.result.columns c.list_missing-held.result.count (omega arith) c.requires.m_le_max_m c.list_missing-held.ensures
