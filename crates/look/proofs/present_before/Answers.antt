-- The ones of the marks below packet i count the packets present before it. Assumes nothing.
use mathlib.Core.Path.{◌≡◌, ◌∙◌}
use Prim.Native.Nat.{◌*◌, ◌%◌, ◌^◌}
use native.Mathlib.Omega.{arith}
use native.Mathlib.Nat.{one-mul}
use lib.Pow.{shl_exact}
use borrow.Author.Rules.{rules}
use Rattle.table.proofs.MarkLaws.{ones_below}
use Rattle.look.proofs.present_before.Goals as goal

pub returns : goal.returns
returns c =
    let s = c.args in
    -- the shift loses nothing
    let cut : 1 * 2 ^ s.i % 2 ^ 64 ≡ 2 ^ s.i = shl_exact 1 s.i 64 (omega arith) (search rules) ∙ one-mul (2 ^ s.i) in
    rw cut (ones_below s.marks s.i)
