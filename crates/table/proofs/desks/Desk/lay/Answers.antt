-- What the checks passed say of the numbers and bytes holds of the desk. Assumes nothing.
use Prim.Native.Nat.{ℕ}
use borrow.Author.Rules.{rules}
use mathlib.Core.Path.{◌≡◌, refl, sym, ap, ◌∙◌}
use Rattle.bits.proofs.BitLaws.{get_or-zeros}
use Rattle.table.specs.Limits.{cells}
use Rattle.table.specs.Desk.{entry, most}
use Rattle.table.specs.Table.{laid_out}
use Rattle.table.proofs.ShapeLaws.{Shaped, shaped}
use Rattle.table.proofs.TableLaws.{laid_entries, laid_low}
use Rattle.table.proofs.desks.Desk.lay.Goals as goal
use Rattle.table.proofs.desks.Desk.lay.Goals.{Start, After-lay_rows}

accepted : (s : Start) → let a = s.args in Shaped a.k a.m a.l a.table.now
accepted s = let a = s.args in shaped a.k a.m a.l a.table.now s.requires

-- the sheet holds the entries of the table
laid : (c : After-lay_rows) → laid_out c.args.k c.lay_rows.new.shifts ≡ entry c.args.k c.args.table.now
laid c =
    let a = c.args in
    let z = accepted (goal.at.invariant_of-self c).Start in
    laid_entries a.k a.m a.table.now c.lay_rows.new.shifts z.k_high z.m_high z.size (search rules) c.lay_rows.ensures.laid

pub lay_rows-requires : goal.lay_rows-requires
lay_rows-requires c =
    let z = accepted (goal.at.lay_rows-requires c).Start in record {
      k_le_max_k = (z.k_high, z.m_high, z.size);
      shifts_len = search rules;
      by_index = λ i. get_or-zeros cells i;
      reaches_len = search rules;
    }

pub invariant_of-self : goal.invariant_of-self
invariant_of-self c =
    let a = c.args in
    let z = accepted (goal.at.invariant_of-self c).Start in
    let same = laid c in
    record {
      within =
          record {
            k_low = z.k_low;
            k_high = z.k_high;
            m_low = z.m_low;
            m_high = z.m_high;
            l_low = z.l_low;
            l_high = z.l_high;
            low = laid_low a.k a.table.now c.lay_rows.new.shifts (search rules) z.low c.lay_rows.ensures.laid;
          };
      measured = λ x l. c.lay_rows.ensures.measured x l ∙ ap (λ (f : ℕ → ℕ → ℕ). most a.k (f x)) (sym same);
    }

pub returns : goal.returns
returns c = record {
  k_is = refl;
  m_is = refl;
  length_is = refl;
  marks_are = refl;
  shifts_are = laid (goal.at.returns c).After-lay_rows;
}
