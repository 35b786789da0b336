-- Each source passed is full, and one that is not ends the search. Assumes nothing.
use Prim.Native.Nat.{ℕ}
use mathlib.Core.Path.{◌≡◌, refl, sym, ◌∙◌, subst}
use mathlib.Core.Bool.{true}
use Rattle.bits.specs.Sums.{at, all_b}
use Rattle.bits.proofs.SumLaws.{all_more, all_miss}
use mathlib.Core.List.{[]}
use Rattle.table.specs.Desk.{desk}
use Rattle.walk.specs.Compute.{full_b, whole_b}
use native.Mathlib.Omega.{arith}
use borrow.Author.Rules.{rules}
use Rattle.walk.proofs.all_whole.Goals as goal

pub loop-b-init : goal.loop-b-init
unfolding all_b
loop-b-init c = refl

pub loop-b-preserved : goal.loop-b-preserved
loop-b-preserved c =
    let s = c.args in
    all_more c.loop-b.b (full_b (desk s.k 0 s.length [] s.marks) (at s.g.now)) c.loop-b.invariant (sym (c.is_full.ensures c.args.k) ∙ c.if-not-is_full.false)

pub returns-then-not-is_full : goal.returns-then-not-is_full
unfolding whole_b
returns-then-not-is_full c =
    let s = c.args in
    sym (all_miss s.k (full_b (desk s.k 0 s.length [] s.marks) (at s.g.now)) c.loop-b.b (search rules) (sym (c.is_full.ensures c.args.k) ∙ c.if-not-is_full.true))

pub returns : goal.returns
unfolding whole_b
returns c =
    let s = c.args in
    let e : c.loop-b.b ≡ s.k = omega arith in
    sym (subst (λ (n : ℕ). all_b n (full_b (desk s.k 0 s.length [] s.marks) (at s.g.now)) ≡ true) e c.loop-b.invariant)
