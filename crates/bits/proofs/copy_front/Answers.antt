-- After i turns dst is src's first i bytes, and then its own.
use mathlib.Core.Path.{refl, ap, ◌∙◌}
use mathlib.Core.List.{List}
use Prim.Native.Nat.{ℕ}
use native.Mathlib.Omega.{arith}
use lib.ListN.{get_or, set, length-set}
use Rattle.bits.proofs.BitLaws.{front_more, front-all}
use Rattle.bits.proofs.copy_front.Goals as goal

pub loop-i-init : goal.loop-i-init
loop-i-init c = (refl, refl)

pub loop-i-preserved : goal.loop-i-preserved
loop-i-preserved c =
    let src = c.args.src.now in
    let i = c.loop-i.i in
    (ap (λ (l : List ℕ). set l i (get_or src i 0)) c.loop-i.invariant.0 ∙ front_more src c.args.dst.now i (omega arith) (omega arith), simp length-set (omega arith))

pub returns : goal.returns
returns c = c.loop-i.invariant.0 ∙ front-all c.args.src.now c.args.dst.now c.loop-i.i (omega arith)
