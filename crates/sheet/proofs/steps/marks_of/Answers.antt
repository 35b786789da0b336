-- The marks so far are those of the numbers passed, from the last on.
use mathlib.Core.Path.{◌≡◌, sym, subst}
use Prim.Native.Nat.{ℕ, suc, ◌+◌, ◌-◌, ◌≤◌, ◌<◌}
use native.Mathlib.Omega.{arith}
use lib.ListN.{length, take, drop}
use borrow.Author.Rules.{rules}
use Rattle.bits.specs.Sums.{at}
use Rattle.table.specs.Limits.{max_k, max_m}
use Rattle.choices.proofs.Holding.{take_rising}
use Rattle.sheet.specs.Steps.{Marked}
use Rattle.sheet.proofs.Marking.{marked_start, marked_before}
use Rattle.sheet.proofs.steps.marks_of.Goals as goal
use Rattle.sheet.proofs.steps.marks_of.Goals.{In-loop-i}

-- each number is a packet number
number : (c : In-loop-i)
    → let x = at c.args.ids (c.loop-i.i - 1) in
    (1 ≤ x) × (x ≤ max_k + max_m)
number c =
    let n : length c.args.ids ≡ max_k = search rules in
    let r = take_rising (max_k + max_m) c.args.k c.args.ids (omega arith) c.requires.1 (c.loop-i.i - 1) (omega arith) in
    (omega (arith, r.0), r.1)

pub loop-i-init : goal.loop-i-init
loop-i-init c =
    let n : length c.args.ids ≡ max_k = search rules in
    marked_start c.args.k c.args.ids (omega arith)

pub overflow_sub-marks : goal.overflow_sub-marks
overflow_sub-marks c = omega (arith, number (goal.at.overflow_sub-marks c).In-loop-i)

pub overflow_shl-marks : goal.overflow_shl-marks
overflow_shl-marks c = omega (arith, number (goal.at.overflow_shl-marks c).In-loop-i)

pub loop-i-preserved : goal.loop-i-preserved
loop-i-preserved c =
    let i = c.loop-i.i in
    let marks = c.loop-i.marks in
    let n : length c.args.ids ≡ max_k = search rules in
    let low : 0 < at c.args.ids (i - 1) = omega (arith, number (goal.at.loop-i-preserved c).In-loop-i) in
    let high : at c.args.ids (i - 1) ≤ 64 = omega (arith, number (goal.at.loop-i-preserved c).In-loop-i) in
    let e : suc (i - 1) ≡ i = omega arith in
    let passed = subst (λ (n : ℕ). Marked (drop n (take c.args.k c.args.ids)) marks) (sym e) c.loop-i.invariant in
    marked_before (max_k + max_m) c.args.k c.args.ids (i - 1) marks 64 (omega arith) (omega arith) low high c.requires.1 passed

pub returns : goal.returns
returns c =
    let z : c.loop-i.i ≡ 0 = omega arith in
    subst (λ (n : ℕ). Marked (drop n (take c.args.k c.args.ids)) c.loop-i.marks) z c.loop-i.invariant
