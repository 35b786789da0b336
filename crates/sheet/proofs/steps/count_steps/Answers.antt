-- The marks are those of the choice, and the table is the house table.
use mathlib.Core.Path.{◌≡◌}
use Prim.Native.Nat.{◌*◌, ◌≤◌}
use native.Mathlib.Nat.{mul-le-mul}
use lib.Seq.{length-take-le}
use borrow.Author.Rules.{rules}
use Rattle.std.specs.Prelude.{Err}
use Rattle.table.specs.Limits.{cells, noughts}
use Rattle.table.proofs.CheckLaws.{sized}
use Rattle.sheet.proofs.steps.count_steps.Goals as goal
use Rattle.sheet.proofs.steps.count_steps.Goals.{After-marks_of-marks}

-- the table fits the full sheet
fits : (c : After-marks_of-marks) → c.args.line.m * c.args.line.k ≤ cells
fits c =
    let s = sized c.args.line.k c.args.line.m c.requires.0 in
    mul-le-mul s.m_high s.k_high

pub with_house-requires : goal.with_house-requires
with_house-requires c = (c.requires.0, length-take-le _ _ (fits (goal.at.with_house-requires c).After-marks_of-marks))

pub returns-in_err-end : goal.returns-in_err-end
returns-in_err-end c =
    let e : c.from_residual.result ≡ Err c.in_err-end.field-0.0 = search rules in
    let w = c.in_err-end.ensures in
    rw e (record { table = _; house = w.0; marks = c.marks_of-marks.result; marked = c.marks_of-marks.ensures; whole = 0; progress = noughts; walked = w.1 })
