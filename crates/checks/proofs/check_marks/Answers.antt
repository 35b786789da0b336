-- What is left above n tells a mark there; with none there, the ones are the marks below n. Assumes nothing.
use mathlib.Core.Path.{◌≡◌, refl, sym, ◌∙◌}
use mathlib.Core.Logic.{inl, inr}
use lib.Count.{ones, ones-le}
use Rattle.bits.specs.Sums.{count}
use Rattle.table.specs.Desk.{mark}
use Rattle.table.specs.Checks.{MarkAbove}
use Rattle.table.proofs.MarkLaws.{ones_are_marks, below, mark_above, no_mark_above}
use Prim.Native.Nat.{◌+◌}
use native.Mathlib.Omega.{arith}
use Rattle.checks.proofs.check_marks.Goals as goal
use Rattle.checks.proofs.check_marks.Goals.{Else-marks-k-ne0}

pub returns-then-marks-k-ne0 : goal.returns-then-marks-k-ne0
returns-then-marks-k-ne0 c = inl (mark_above (c.args.k + c.args.m) c.args.marks (λ z. omega arith), refl)

pub overflow_cast-marks : goal.overflow_cast-marks
overflow_cast-marks c = omega (arith, ones-le 64 c.args.marks c.ranges.marks.fits)

-- past the first test no mark is above n, and the ones are the marks below
passed : (c : Else-marks-k-ne0) → let s = c.args in (MarkAbove (s.k + s.m) s.marks → ⊥) × (ones s.marks ≡ count (s.k + s.m) (mark s.marks))
passed c =
    let s = c.args in
    let n = s.k + s.m in
    let z = c.if-marks-k-ne0.false in
    ((λ x. no_mark_above n s.marks z x.0 x.1 x.2), ones_are_marks n s.marks (below n s.marks z))

pub returns-then-marks-k : goal.returns-then-marks-k
returns-then-marks-k c = let p = passed (goal.at.returns-then-marks-k c).Else-marks-k-ne0 in inr (p.0, inl ((λ e. c.if-marks-k.true (p.1 ∙ e)), refl))

pub returns : goal.returns
returns c = let p = passed (goal.at.returns c).Else-marks-k-ne0 in inr (p.0, inr ((λ n. n (sym p.1 ∙ c.if-marks-k.false)), refl))
