-- The columns looked at so far rise evenly, each by more than the one before. Assumes nothing.
use Rattle.table.specs.Desks.{desk_of}
use Rattle.plan.specs.Even.{shift_at, EvenTo}
use Rattle.plan.proofs.all_rise.Given as goal

abbrev pub invariant-loop-j : goal.invariant-loop-j
invariant-loop-j l = EvenTo (shift_at (desk_of l.desk) l.rows l.missing.columns l.turned) l.missing.count l.rises l.last l.j
