-- The cell is in row i div 8 and column i mod 8, and its shift fits in a byte. Assumes nothing.
use mathlib.Core.Path.{◌∙◌}
use Prim.Native.Nat.{◌+◌, ◌/◌, ◌%◌}
use native.Mathlib.Omega.{arith}
use borrow.Author.Rules.{rules}
use Rattle.table.specs.Limits.{max_k}
use Rattle.table.proofs.FamilyLaws.{hankel_byte, family_house, family_hankel, family_vandermonde}
use Rattle.table.proofs.families.cell.Goals as goal

pub overflow_cast-result-in-Hankel : goal.overflow_cast-result-in-Hankel
overflow_cast-result-in-Hankel c =
    let s = c.args in
    omega (arith, c.hankel_shift.ensures, hankel_byte s.k s.m (s.i / max_k + 1) (s.i % max_k + 1) (search rules) (search rules) (omega arith) (omega arith))

pub returns-in-House : goal.returns-in-House
returns-in-House c = let s = c.args in rw c.in-House.is (c.house_shift.ensures ∙ family_house s.k s.m (s.i / max_k + 1) (s.i % max_k + 1))

pub returns-in-Hankel : goal.returns-in-Hankel
returns-in-Hankel c = let s = c.args in rw c.in-Hankel.is (c.hankel_shift.ensures ∙ family_hankel s.k s.m (s.i / max_k + 1) (s.i % max_k + 1))

pub returns-in-Vandermonde : goal.returns-in-Vandermonde
returns-in-Vandermonde c = let s = c.args in rw c.in-Vandermonde.is (c.vandermonde_shift.ensures ∙ family_vandermonde s.k s.m (s.i / max_k + 1) (s.i % max_k + 1))
