-- What is left and the digits written after it are the number.
use Prim.Native.Nat.{◌+◌, ◌-◌}
use mathlib.Core.Path.{◌≡◌, sym}
use mathlib.Core.List.{append-nil}
use native.Mathlib.Omega.{arith}
use lib.ListN.{length-set}
use borrow.Author.Rules.{rules}
use Rattle.text.specs.Numerals.{numeral}
use Rattle.text.proofs.DigitLaws.{digit_before, first-digit, place_before}
use Rattle.text.proofs.digits_of.Goals as goal

pub loop-left-init : goal.loop-left-init
loop-left-init c = (omega arith, search rules, omega arith, sym (append-nil (numeral c.args.n)))

pub overflow_sub-start-in-loop-left : goal.overflow_sub-start-in-loop-left
overflow_sub-start-in-loop-left c = (place_before c.loop-left.left c.loop-left.start c.loop-left-test.true c.loop-left.invariant.2).0

pub loop-left-preserved : goal.loop-left-preserved
loop-left-preserved c =
    let at-loop = c.loop-left in
    let v = at-loop.invariant in
    let p = place_before at-loop.left at-loop.start c.loop-left-test.true v.2 in
    let e : at-loop.start - 1 + 1 ≡ at-loop.start = omega (arith, p.0) in (
      omega arith,
      simp length-set v.1,
      rw e p.1,
      rw e (digit_before c.args.n at-loop.left at-loop.start at-loop.text (omega arith) v.3 c.loop-left-test.true),
    )

pub returns : goal.returns
returns c =
    let at-loop = c.loop-left in
    let v = at-loop.invariant in
    (v.0, first-digit c.args.n at-loop.left at-loop.start at-loop.text (omega arith) v.3 (omega arith))
