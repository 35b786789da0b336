-- The shift in its row and column, or in the row and column turned. Assumes nothing.
use Prim.Native.Nat.{ℕ}
use mathlib.Core.Path.{ap, ◌∙◌}
use Rattle.table.specs.Desks.{desk_of}
use Rattle.plan.specs.Plan.{listed_shift}
use Rattle.plan.specs.Even.{shift_at}
use Rattle.plan.proofs.shift_at.Goals as goal
use Rattle.plan.proofs.shift_at.Goals.{then-turned, else-turned}

pub returns : goal.returns
unfolding shift_at
returns c =
    let a = c.args in
    let place = λ (p : ℕ × ℕ). listed_shift (desk_of a.desk.now) a.rows.now a.missing.now.columns p.0 p.1 in
    elim c.if-turned.branch [
      | then-turned w ↦ rw w.if-turned.true (c.shift_of.ensures.0 ∙ ap place w.i-is, c.shift_of.ensures.1)
      | else-turned w ↦ rw w.if-turned.false (c.shift_of.ensures.0 ∙ ap place w.i-is, c.shift_of.ensures.1)
    ]
