-- After each digit the numeral is one digit longer, and it ends at a 0, at three digits, or where no digit stands.
use mathlib.Core.Path.{◌≡◌, refl, subst, ap, ◌∙◌}
use mathlib.Core.Logic.{inl, inr}
use mathlib.Core.List.{◌++◌}
use Prim.Native.Nat.{ℕ, ◌+◌, ◌*◌}
use native.Mathlib.Omega.{arith}
use lib.ListN.{drop}
use Rattle.text.specs.Numerals.{numeral}
use Rattle.line.specs.Reading.{DigitAt}
use Rattle.line.proofs.Readings.{one_digit, two_digits, digit_more}
use Rattle.line.proofs.number_at.Goals as goal

pub returns-then-a-eq0 : goal.returns-then-a-eq0
returns-then-a-eq0 c =
    let s = c.args in
    let zero = subst (DigitAt s.input.now s.i) (omega arith) c.in_ok-a.ensures in
    record { low = omega arith; some = omega arith; within = omega (arith, zero.inside); found = one_digit s.input.now s.i zero; longest = λ _ _ _ _. inl refl }

pub returns-in_default : goal.returns-in_default
returns-in_default c =
    let s = c.args in
    let a = c.in_ok-a.ensures in
    record {
      low = omega (arith, a.low);
      some = omega arith;
      within = omega (arith, a.inside);
      found = one_digit s.input.now s.i a;
      longest = λ x rest l e. absurd (c.in_default.ensures x rest l e);
    }

pub returns-in_default-digit_at : goal.returns-in_default-digit_at
returns-in_default-digit_at c =
    let s = c.args in
    let a = c.in_ok-a.ensures in
    let b = c.in-Some.ensures in
    record {
      low = omega (arith, a.low, b.low);
      some = omega arith;
      within = omega (arith, b.inside);
      found = two_digits s.input.now s.i a (omega arith) b;
      longest = λ x rest l e. absurd (c.in_default-digit_at.ensures x rest l e);
    }

pub returns : goal.returns
returns c =
    let s = c.args in
    let a = c.in_ok-a.ensures in
    let b = c.in-Some.ensures in
    let d = c.in-Some-digit_at.ensures in
    let two = 10 * c.in_ok-a.a + c.in-Some.b in
    let e : s.i + 2 + 1 ≡ s.i + 3 = omega arith in
    record {
      low = omega (arith, a.low, b.low, d.low);
      some = omega arith;
      within = omega (arith, d.inside);
      found = digit_more s.input.now s.i (two_digits s.input.now s.i a (omega arith) b) (omega arith) d ∙ ap (λ (n : ℕ). numeral (10 * two + c.in-Some-digit_at.c) ++ drop n s.input.now) e;
      longest = λ _ _ _ _. inr (omega arith);
    }
