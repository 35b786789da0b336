-- The byte of bit n is clear from that bit on, and each later byte that is passed is 0.
use mathlib.Core.Path.{◌≡◌, ap, ◌∙◌}
use Prim.Native.Nat.{◌/◌, ◌%◌, ◌^◌, ◌<◌}
use native.Mathlib.Nat.{zero-div}
use native.Mathlib.Omega.{arith}
use borrow.Author.Count.{below_more}
use lib.ListN.{get_or, get_or-eq_default}
use Rattle.bits.proofs.BitLaws.{clear_from, clear_first, clear_later, tells_so, tells_not}
use Rattle.bits.proofs.clear_above.Goals.{then-b-s+else-s-b-ne0, else-b-s}
use Rattle.bits.proofs.clear_above.Goals as goal

pub returns-then-s-b-ne0 : goal.returns-then-s-b-ne0
returns-then-s-b-ne0 c =
    let at = c.args in
    tells_not (λ cl. c.if-s-b-ne0.true (clear_first at.s.now at.n (c.type_inv.s (at.n / 8)).fits cl))

pub loop-i-init : goal.loop-i-init
loop-i-init c =
    let at = c.args in (
      elim c.if-b-s.branch [ then-b-s+else-s-b-ne0 w ↦ omega arith | else-b-s w ↦ ap (λ x. x / 2 ^ (at.n % 8)) (get_or-eq_default at.s.now 0 w.if-b-s.false) ∙ zero-div (2 ^ (at.n % 8)) ],
      λ k x y. absurd (omega arith),
    )

pub returns-then-s-i-ne0 : goal.returns-then-s-i-ne0
returns-then-s-i-ne0 c =
    let at = c.args in
    let i = c.loop-i.i in
    tells_not (λ cl. c.if-s-i-ne0.true (clear_later at.s.now at.n i (c.type_inv.s i).fits (omega arith) cl))

pub loop-i-preserved : goal.loop-i-preserved
loop-i-preserved c =
    let at = c.args in
    let i = c.loop-i.i in
    let inv = c.loop-i.invariant in
    (inv.0, λ k x y. below_more (λ k. at.n / 8 < k → get_or at.s.now k 0 ≡ 0) i (λ k y z. inv.1 k z y) (λ _. c.if-s-i-ne0.false) k y x)

pub returns : goal.returns
returns c =
    let at = c.args in
    tells_so (clear_from at.s.now at.n c.loop-i.i c.loop-i.invariant.0 c.loop-i.invariant.1 c.loop-i-test.false)
