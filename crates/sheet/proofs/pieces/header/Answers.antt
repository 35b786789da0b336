-- It is put at the front, where nothing stands before it.
use mathlib.Core.Path.{refl}
use mathlib.Core.List.{[]}
use native.Mathlib.Omega.{arith}
use Rattle.sheet.proofs.pieces.header.Goals as goal

pub returns-clause-printed : goal.returns-clause-printed
returns-clause-printed c =
    let p = c.put.ensures in
    record { short = λ l. absurd (omega arith); done = λ _. (p.0, p.1 c.args.out.now [] refl refl) }
