-- Each place passed holds the next number, counted from x.
use Prim.Native.Nat.{ℕ, ◌+◌, ◌-◌}
use mathlib.Core.Path.{◌≡◌, sym, ap, ◌∙◌}
use mathlib.Core.List.{List, ◌++◌, append-nil}
use native.Mathlib.Omega.{arith}
use lib.ListN.{length, take, drop, set, take-append-drop}
use borrow.Author.Rules.{rules}
use Rattle.table.specs.Limits.{max_k}
use Rattle.choices.specs.Choices.{run}
use Rattle.choices.proofs.Holding.{counted_more}
use Rattle.choices.proofs.count_up.Goals as goal

pub loop-at-init : goal.loop-at-init
loop-at-init c =
    let s = c.args in
    let z : s.i - s.i ≡ 0 = omega arith in
    rw z (sym (ap (λ (l : List ℕ). l ++ drop s.i s.ids) (append-nil (take s.i s.ids)) ∙ take-append-drop s.i s.ids))

pub loop-at-preserved : goal.loop-at-preserved
loop-at-preserved c =
    let s = c.args in
    let at = c.loop-at.at in
    let n : length s.ids ≡ max_k = search rules in
    ap (λ (l : List ℕ). set l at (s.x + (at - s.i))) c.loop-at.invariant ∙ counted_more s.ids s.i at s.x (omega arith) (omega arith)

pub returns : goal.returns
returns c =
    let s = c.args in
    let e : c.loop-at.at ≡ s.k = omega arith in
    c.loop-at.invariant ∙ ap (λ (n : ℕ). take s.i s.ids ++ run s.x (n - s.i) ++ drop n s.ids) e
