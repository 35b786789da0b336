-- The first number stands at the front, and the others follow each after a comma.
use mathlib.Core.Path.{◌≡◌, refl, sym, ap, subst, ◌∙◌}
use mathlib.Core.List.{List, [], ◌++◌}
use Prim.Native.Nat.{ℕ, ◌+◌}
use native.Mathlib.Omega.{arith}
use lib.ListN.{length, take, drop, length-take, length-append}
use lib.Seq.{get_or-take}
use Rattle.bits.specs.Sums.{at}
use Rattle.text.specs.Text.{Front}
use Rattle.text.specs.Numerals.{numeral}
use Rattle.text.proofs.NumeralLaws.{numeral_short}
use Rattle.table.specs.Limits.{max_k, max_m}
use Rattle.choices.proofs.Holding.{take_rising}
use Rattle.sheet.specs.Printing.{after_commas, commaed, id_digits}
use Rattle.sheet.proofs.Writings.{commaed-first}
use borrow.Author.Rules.{rules}
use Rattle.sheet.proofs.writing.put_ids.Goals as goal

pub put_others-requires : goal.put_others-requires
put_others-requires c =
    let a = c.put_numeral-end in
    let n : length c.args.ids ≡ max_k = search rules in
    let id = take_rising (max_k + max_m) c.args.k c.args.ids (omega arith) c.requires.2 0 (omega arith) in
    let short = numeral_short id_digits (at c.args.ids 0) (omega arith) (omega (arith, id.1)) in
    (omega arith, omega arith, c.requires.2, omega (arith, a.ensures.0, short), omega (arith, a.auto.out))

pub returns : goal.returns
returns c =
    let a = c.put_numeral-end in
    let b = c.put_others in
    let n : length c.args.ids ≡ max_k = search rules in
    let xs = take c.args.k c.args.ids in
    let first = numeral (at c.args.ids 0) in
    let others = after_commas (drop 1 xs) in
    let lx : length xs ≡ c.args.k = simp length-take (omega arith) in
    let e : at xs 0 ≡ at c.args.ids 0 = get_or-take c.args.k c.args.ids 0 0 (omega arith) in
    let f : commaed xs ≡ first ++ others = commaed-first xs (omega arith) ∙ ap (λ (x : ℕ). numeral x ++ others) e in
    let front = a.ensures.2 c.args.out.now [] refl refl in (
      omega (arith, a.ensures.0, b.ensures.0, ap length f, length-append first others),
      b.ensures.1,
      subst (λ (t : List ℕ). Front c.args.out.now t b.new.out) (sym f) (b.ensures.2 c.args.out.now first (omega (arith, a.ensures.0)) front),
    )
