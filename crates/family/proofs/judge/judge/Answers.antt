-- Differences that grow between neighbours grow between any two rows and columns. Assumes nothing.
use mathlib.Core.Path.{refl}
use Rattle.table.specs.Checks.{size_checks, table_checks}
use Rattle.table.proofs.CheckLaws.{numbered_by, goes, sized}
use Rattle.table.proofs.AnswerLaws.{answer_done}
use Rattle.family.proofs.GrowLaws.{judged_flag}
use Rattle.family.proofs.judge.judge.Goals as goal

pub returns : goal.returns
returns c =
    let s = c.args in
    let size = size_checks s.k s.m in
    let z = sized s.k s.m c.in_ok-check_size.ensures in
    answer_done _ 0 (goes size (table_checks s.k s.m s.table.now) 0 (numbered_by size refl) c.in_ok-check_size.ensures c.in_ok-check_table.ensures) refl
    (judged_flag c.new-t.ensures z.k_high z.m_high c.table_grows.result c.table_grows.ensures)
