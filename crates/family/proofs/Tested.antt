-- Tests that compute whether a table is a family's, and whether differences grow: for examples. Assumes nothing.
use mathlib.Core.Path.{◌≡◌, sym, ◌∙◌}
use mathlib.Core.Logic.{inl, inr}
use mathlib.Core.Bool.{Bool, true, false, ◌&&◌, and-eq-true_iff, true≢false}
use mathlib.Core.List.{List}
use Prim.Native.Nat.{ℕ, ◌+◌, ◌-◌, ◌*◌}
use native.Mathlib.Omega.{arith}
use lib.Dec.{eqb, ltb}
use lib.ListN.{length}
use borrow.Author.Tests.{ltb-true, eqb-true, lt-ltb}
use Rattle.bits.specs.Sums.{all_b}
use Rattle.bits.proofs.SumLaws.{all-at, all_of}
use Rattle.table.specs.Desk.{entry, desk, Grows}
use Rattle.table.specs.Family.{family_shift}
use Rattle.table.specs.Checks.{Flag}
use Rattle.family.specs.Promise.{FamilyTable}
use Rattle.family.proofs.GrowLaws.{steps_grow}

-- a cell of a table is the family's
abbrev cell_b : ℕ → ℕ → ℕ → List ℕ → ℕ → ℕ → Bool
cell_b family k m table a b = eqb (entry k table a b) (family_shift family k m (a + 1) (b + 1))

-- every cell is
unfoldable pub family_b : ℕ → ℕ → ℕ → List ℕ → Bool
family_b family k m table = eqb (length table) (m * k) && all_b m (λ a. all_b k (cell_b family k m table a))

pub family_table : (family k m : ℕ) (table : List ℕ) → family_b family k m table ≡ true → FamilyTable family k m table
unfolding family_b
family_table family k m table e =
    let w = (and-eq-true_iff (eqb (length table) (m * k)) _).0 e in
    record {
      size = eqb-true (length table) (m * k) w.0;
      cell = λ a b la lb. eqb-true _ _ (all-at k (cell_b family k m table a) (all-at m (λ a. all_b k (cell_b family k m table a)) w.1 a la) b lb);
    }

-- neighbours compared
unfoldable pub step_b : ℕ → List ℕ → ℕ → ℕ → Bool
step_b k table a b = ltb (entry k table a (b + 1) + entry k table (a + 1) b) (entry k table (a + 1) (b + 1) + entry k table a b)

abbrev row_b : ℕ → List ℕ → ℕ → Bool
row_b k table a = all_b (k - 1) (step_b k table a)

unfoldable pub grows_b : ℕ → ℕ → List ℕ → Bool
grows_b k m table = all_b (m - 1) (row_b k table)

-- growing differences pass
grows_passes : (k m : ℕ) (table : List ℕ) → Grows (desk k m 0 table 0) → grows_b k m table ≡ true
unfolding grows_b step_b
grows_passes k m table g = all_of (m - 1) (row_b k table)
    (λ a la. all_of (k - 1) (step_b k table a) (λ b lb. lt-ltb _ _ (g a (a + 1) b (b + 1) (omega arith) (omega arith) (omega arith) (omega arith))))

unfoldable pub flag_of : Bool → ℕ
flag_of true = 1
flag_of false = 0

pub grows_flag : (k m : ℕ) (table : List ℕ) (v : Bool) (n : ℕ) → grows_b k m table ≡ v → n ≡ flag_of v → Flag (Grows (desk k m 0 table 0)) n
unfolding grows_b step_b flag_of
grows_flag k m table true n e f = inl (
  steps_grow k m (entry k table) (λ a b la lb. ltb-true _ _ (all-at (k - 1) (step_b k table a) (all-at (m - 1) (row_b k table) e a (omega arith)) b (omega arith))),
  f,
)
grows_flag k m table false n e f = inr ((λ g. true≢false (sym (grows_passes k m table g) ∙ e)), f)
