-- Each number passed stands after a comma.
use Prim.Native.Nat.{ℕ, ◌+◌}
use mathlib.Core.Path.{◌≡◌, refl, sym, ap, subst, ◌∙◌}
use native.Mathlib.Omega.{arith}
use lib.ListN.{length, take, length-take}
use lib.Seq.{get_or-take}
use borrow.Author.Rules.{rules}
use Rattle.bits.specs.Sums.{at}
use Rattle.text.specs.Text.{PutAt}
use Rattle.text.specs.Numerals.{numeral}
use Rattle.text.proofs.NumeralLaws.{numeral_short}
use Rattle.table.specs.Limits.{max_k, max_m}
use Rattle.choices.proofs.Holding.{take_rising}
use Rattle.sheet.specs.Printing.{id_digits}
use Rattle.sheet.proofs.Writings.{put_start, put_next, put_end}
use Rattle.sheet.proofs.writing.put_others.Goals as goal

pub loop-i-init : goal.loop-i-init
loop-i-init c =
    let s = c.args in
    (refl, omega arith, put_start s.out.now s.start (take s.k s.ids))

pub loop-i-preserved : goal.loop-i-preserved
loop-i-preserved c =
    let at-loop = c.loop-i in
    let v = at-loop.invariant in
    let i = at-loop.i in
    let n : length c.args.ids ≡ max_k = search rules in
    let a = c.put_byte-number in
    let b = c.put_numeral-end in
    let xs = take c.args.k c.args.ids in
    let lx : length xs ≡ c.args.k = simp length-take (omega arith) in
    let e : at xs i ≡ at c.args.ids i = get_or-take c.args.k c.args.ids i 0 (omega arith) in
    let id = take_rising (max_k + max_m) c.args.k c.args.ids (omega arith) c.requires.2 i (omega arith) in
    let short = numeral_short id_digits (at c.args.ids i) (omega arith) (omega (arith, id.1)) in
    let ends = b.ensures.0 ∙ ap (λ (x : ℕ). a.result + length (numeral x)) (sym e) in
    let done = subst (λ (x : ℕ). PutAt a.new.out a.result (numeral x) b.new.out) (sym e) b.ensures.2 in
    let so_far = put_next c.args.out.now c.args.start xs i at-loop.out a.new.out b.new.out at-loop.end a.result b.result (omega arith) v.2 in (
      b.auto.out ∙ a.auto.out ∙ v.0,
      omega (arith, a.ensures.0, b.ensures.0),
      so_far a.ensures.0 a.ensures.1 ends done,
    )

pub returns : goal.returns
returns c =
    let at-loop = c.loop-i in
    let v = at-loop.invariant in
    let n : length c.args.ids ≡ max_k = search rules in
    let xs = take c.args.k c.args.ids in
    let lx : length xs ≡ c.args.k = simp length-take (omega arith) in
    let r = put_end c.args.out.now c.args.start xs at-loop.i at-loop.out at-loop.end (omega arith) v.2 in
    (r.0, omega arith, r.1)
