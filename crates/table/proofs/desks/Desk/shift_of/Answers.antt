-- Row a and column b stand where the sheet has them. Assumes nothing.
use Prim.Native.Nat.{◌+◌, ◌*◌}
use mathlib.Core.Path.{◌∙◌}
use native.Mathlib.Omega.{arith}
use Rattle.table.proofs.TableLaws.{laid_in}
use Rattle.table.proofs.desks.Desk.shift_of.Goals as goal

pub returns : goal.returns
returns c =
    let a = c.args in
    let d = a.self.now in
    (c.from.ensures ∙ laid_in d.k d.shifts a.a a.b c.requires.1, omega (arith, c.from.ensures, d.within.low (a.a * 8 + a.b)))
