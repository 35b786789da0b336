-- The list of the missing sources, from one column to the next, and sums over it. Assumes nothing.
use mathlib.Core.Path.{◌≡◌, refl, sym, ap, ◌∙◌}
use mathlib.Core.Bool.{true, false}
use mathlib.Core.List.{List}
use Prim.Native.Nat.{ℕ, ◌+◌, ◌-◌, ◌≤◌, ◌<◌}
use native.Mathlib.Omega.{arith}
use native.Mathlib.Numerals.{add-one}
use native.Mathlib.Decide.{ℕ_discrete}
use lib.ListN.{set, length-set}
use lib.Seq.{get_or-set_same, get_or-set_other}
use Rattle.bits.specs.Sums.{at, sum}
use Rattle.bits.proofs.SumLaws.{sum_add, sum_nought}
use Rattle.table.specs.Limits.{max_k}
use Rattle.table.specs.Desk.{mark}
use Rattle.table.specs.Table.{NextMark}
use Rattle.search.specs.Search.{Lists}

-- one more column
module _ (k marks : ℕ) (columns : List ℕ) (n b : ℕ) (L : Lists k marks columns n b) where
  pub lists_more : (r : ℕ) → k ≤ max_k → b < k → mark marks b ≡ false → NextMark false marks (b + 1) k r → Lists k marks (set columns (n + 1) r) (n + 1) r
  lists_more r h l clear N = record {
    size = length-set columns (n + 1) r ∙ L.size;
    inside = λ j q. elim (ℕ_discrete j n) [
      | yes e ↦ omega (arith, ap (at columns) e, L.last, same j (omega arith))
      | no ne ↦ omega (arith, same j (omega arith), L.inside j (omega arith))
    ];
    gone = λ j q. elim (ℕ_discrete j n) [
      | yes e ↦ ap (mark marks) (same j (omega arith) ∙ ap (at columns) e ∙ L.last) ∙ clear
      | no ne ↦ ap (mark marks) (same j (omega arith)) ∙ L.gone j (omega arith)
    ];
    grow = λ j q. elim (ℕ_discrete j n) [
      | yes e ↦ omega (arith, ap (at columns) e, L.last, same j (omega arith), new (j + 1) (omega arith), N.from)
      | no ne ↦ omega (arith, same j (omega arith), same (j + 1) (omega arith), L.grow j (omega arith))
    ];
    first = λ c z q. L.first c z (omega (arith, same 0 (omega arith)));
    between = λ j q. elim (ℕ_discrete j n) [
      | yes e ↦ λ c u v. N.passed c (omega (arith, ap (at columns) e, L.last, same j (omega arith))) (omega (arith, new (j + 1) (omega arith)))
      | no ne ↦ λ c u v. L.between j (omega arith) c (omega (arith, same j (omega arith))) (omega (arith, same (j + 1) (omega arith)))
    ];
    last = new (n + 1) refl;
    few = omega (arith, L.few, N.from);
  }
    where
      same : (j : ℕ) → j ≤ n → at (set columns (n + 1) r) j ≡ at columns j
      same j q = get_or-set_other columns (n + 1) j r 0 (λ e. omega arith)

      new : (j : ℕ) → j ≡ n + 1 → at (set columns (n + 1) r) j ≡ r
      new j e = ap (at (set columns (n + 1) r)) e ∙ get_or-set_same columns (n + 1) r 0 (omega (arith, L.size, L.few))

-- the sum over the sources below a column
module _ (k marks : ℕ) (columns : List ℕ) (n b : ℕ) (L : Lists k marks columns n b) (f : ℕ → ℕ) (none : (c : ℕ) → mark marks c ≡ true → f c ≡ 0) where
  pub listed_none : sum (at columns 0) f ≡ 0
  listed_none = sum_nought (at columns 0) f (λ c l. none c (L.first c (omega arith) l))

  pub listed_more : (j : ℕ) → j < n → sum (at columns (j + 1)) f ≡ sum (at columns j) f + f (at columns j)
  unfolding sum
  listed_more j l =
      let u = at columns j + 1 in
      let d = at columns (j + 1) - u in
      let e : u + d ≡ at columns (j + 1) = omega (arith, L.grow j l) in
      let rest = sum_nought d (λ i. f (u + i)) (λ i q. none (u + i) (L.between j l (u + i) (omega arith) (omega arith))) in
      ap (λ x. sum x f) (sym e) ∙ sum_add f u d ∙ omega (arith, rest, ap (λ x. sum x f) (add-one (at columns j)))
