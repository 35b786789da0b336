-- Laws of the code's desk: with other marks it stands for the same numbers and table. Assumes nothing.
use mathlib.Core.Path.{◌≡◌, ap₂, ◌∙◌, sym, subst}
use mathlib.Core.List.{List}
use Prim.Native.Nat.{ℕ, ◌+◌, ◌/◌, ◌^◌}
use Rattle.table.specs.Table.{laid_out}
use Rattle.table.specs.Desks.{Stands, Ready, Remarked}
use Rattle.table.specs.declared.desks.Desk as laid

pub remarked_stands : (k m l : ℕ) (table : List ℕ) (n marks : ℕ) (d d' : laid.Desk) → Stands k m l table n d → Remarked marks d d' → Stands k m l table marks d'
remarked_stands k m l table n marks d d' S R = record {
  k_is = R.k_is ∙ S.k_is;
  m_is = R.m_is ∙ S.m_is;
  length_is = R.length_is ∙ S.length_is;
  marks_are = R.marks_are;
  shifts_are = ap₂ laid_out R.k_is R.shifts_are ∙ S.shifts_are;
}

-- and where none of them stands above the packets it is ready
pub remarked_ready : (marks : ℕ) (d d' : laid.Desk) → Remarked marks d d' → marks / 2 ^ (d.k + d.m) ≡ 0 → Ready d'
remarked_ready marks d d' R none =
    subst (λ n. n / 2 ^ (d'.k + d'.m) ≡ 0) (sym R.marks_are)
    (subst (λ n. marks / 2 ^ (n + d'.m) ≡ 0) (sym R.k_is) (subst (λ n. marks / 2 ^ (d.k + n) ≡ 0) (sym R.m_is) none))
