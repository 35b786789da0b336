-- The word, the number and the line feed are put one after another.
use mathlib.Core.Path.{refl}
use mathlib.Core.List.{[], ◌∷◌, ◌++◌}
use native.Mathlib.Omega.{arith}
use lib.ListN.{length-append}
use Rattle.text.specs.Text.{line_feed}
use Rattle.text.specs.Numerals.{numeral}
use Rattle.sheet.specs.Printing.{refused}
use Rattle.sheet.proofs.pieces.refusal.Goals as goal

pub returns-clause-printed : goal.returns-clause-printed
returns-clause-printed c =
    let s = c.args in
    let a = c.put-word.ensures in
    let b = c.put_numeral-end.ensures in
    let d = c.put_byte.ensures in
    let first = a.1 s.out.now [] refl refl in
    let second = b.2 s.out.now refused (omega (arith, a.0)) first in
    let third = d.1 s.out.now (refused ++ numeral s.number) (omega (arith, a.0, b.0)) second in
    record {
      short = λ l. absurd (omega arith);
      done = λ _. (omega (arith, a.0, b.0, d.0, length-append (numeral s.number) (line_feed ∷ [])), third);
    }
