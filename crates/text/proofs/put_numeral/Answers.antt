-- The digits of the number are put as they are.
use mathlib.Core.Path.{◌≡◌, ap, subst, ◌∙◌}
use mathlib.Core.List.{List}
use Prim.Native.Nat.{ℕ, ◌+◌, ◌-◌}
use native.Mathlib.Omega.{arith}
use lib.ListN.{length, take, drop, length-drop}
use lib.Seq.{take_all}
use Rattle.text.specs.Text.{PutAt}
use Rattle.text.specs.Numerals.{numeral}
use borrow.Author.Rules.{rules}
use Rattle.text.proofs.put_numeral.Goals as goal

pub returns : goal.returns
returns c =
    let s = c.args in
    let d = c.digits_of-d in
    let p = c.put in
    let digits = drop d.result.start d.result.text in
    let n = length d.result.text - d.result.start in
    let all : take n digits ≡ numeral s.n = take_all n digits (omega (arith, length-drop d.result.start d.result.text)) ∙ d.ensures.1 in (
      p.ensures.0 ∙ ap (λ (t : List ℕ). s.at + length t) all,
      search rules,
      subst (λ (t : List ℕ). PutAt s.out.now s.at t p.new.out) all p.ensures.1,
    )
