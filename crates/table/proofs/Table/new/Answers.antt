-- What the checks that passed say of the bytes holds of the cells. Assumes nothing.
use borrow.Author.Rules.{rules}
use mathlib.Core.Path.{refl}
use Rattle.table.specs.Checks.{Checked, size_checks, table_checks}
use Rattle.table.proofs.CheckLaws.{numbered_by, passed, sized, tabled}
use Rattle.table.proofs.TableLaws.{laid_entries, laid_low}
use Rattle.table.proofs.Table.new.Goals as goal
use Rattle.table.proofs.Table.new.Goals.{Start}

-- the checks of the size and those of the bytes passed
accepted : (s : Start) → let a = s.args in Checked (size_checks a.k a.m) 0 × Checked (table_checks a.k a.m a.table.now) 0
accepted s = let a = s.args in passed (size_checks a.k a.m) (table_checks a.k a.m a.table.now) (numbered_by (size_checks a.k a.m) refl) s.requires

pub laid_out-shifts-requires : goal.laid_out-shifts-requires
laid_out-shifts-requires c =
    let a = c.args in
    let p = accepted (goal.at.laid_out-shifts-requires c).Start in
    let z = sized a.k a.m p.0 in
    (z.k_high, z.m_high, (tabled a.k a.m a.table.now p.1).0)

pub returns : goal.returns
returns c =
    let a = c.args in
    let p = accepted (goal.at.returns c).Start in
    let z = sized a.k a.m p.0 in
    let t = tabled a.k a.m a.table.now p.1 in
    record {
      k_is = refl;
      m_is = refl;
      laid = laid_entries a.k a.m a.table.now c.laid_out-shifts.result z.k_high z.m_high t.0 (search rules) c.laid_out-shifts.ensures;
      low = laid_low a.k a.table.now c.laid_out-shifts.result (search rules) t.1 c.laid_out-shifts.ensures;
    }
