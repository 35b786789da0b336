-- Tests that compute whether a call's numbers, table and marks are accepted: for examples. Assumes nothing.
use mathlib.Core.Path.{◌≡◌, refl}
use mathlib.Core.Logic.{inr}
use mathlib.Core.Bool.{Bool, true, ◌&&◌, and-eq-true_iff}
use mathlib.Core.List.{List, [], ◌∷◌, ◌++◌}
use Prim.Native.Nat.{ℕ, zero, suc, ◌+◌, ◌*◌, ◌^◌, ◌<◌}
use native.Mathlib.Omega.{arith}
use native.Mathlib.Nat.{div-eq_of_lt}
use lib.Dec.{eqb, ltb, leb}
use lib.ListN.{length}
use borrow.Author.Tests.{ltb-true, leb-true, eqb-true}
use Rattle.bits.specs.Sums.{at, count}
use Rattle.table.specs.Limits.{max_k, max_m, max_length, max_shift, max_family, max_stripes}
use Rattle.table.specs.Desk.{mark}
use Rattle.table.specs.Checks.{Checked, Outside, size_checks, family_number_checks, length_checks, table_checks, stripes_checks, number_checks, marks_checks, shape_checks, marked_checks}
use Rattle.table.proofs.CheckLaws.{numbered_by, goes, neither, inside}
use Rattle.table.proofs.MarkLaws.{no_mark_above}

-- both sides of a conjunction
both : (p q : Bool) → (p && q) ≡ true → (p ≡ true) × (q ≡ true)
both p q e = (and-eq-true_iff p q).0 e

-- no entry is above the limit
unfoldable pub low_b : List ℕ → Bool
low_b [] = true
low_b (x ∷ xs) = leb x max_shift && low_b xs

unfoldable pub inside_b : ℕ → ℕ → Bool
inside_b most n = leb 1 n && leb n most

unfoldable pub size_b : ℕ → ℕ → Bool
size_b k m = inside_b max_k k && inside_b max_m m

unfoldable pub table_b : ℕ → ℕ → List ℕ → Bool
table_b k m table = eqb (length table) (m * k) && low_b table

unfoldable pub shape_b : ℕ → ℕ → ℕ → List ℕ → Bool
shape_b k m l table = size_b k m && (inside_b max_length l && table_b k m table)

unfoldable pub taken_b : ℕ → ℕ → ℕ → List ℕ → ℕ → Bool
taken_b k m l table marks = shape_b k m l table && (ltb marks (2 ^ (k + m)) && eqb (count (k + m) (mark marks)) k)

low_entry : (t : List ℕ) → low_b t ≡ true → (i : ℕ) → max_shift < at t i → ⊥
unfolding low_b
low_entry [] e i h = omega arith
low_entry (x ∷ xs) e zero h = omega (arith, leb-true x max_shift (both _ _ e).0)
low_entry (x ∷ xs) e (suc i) h = low_entry xs (both (leb x max_shift) (low_b xs) e).1 i h

inside_not : (most n : ℕ) → inside_b most n ≡ true → Outside most n → ⊥
unfolding inside_b
inside_not most n e =
    let w = both (leb 1 n) (leb n most) e in
    inside (leb-true 1 n w.0) (leb-true n most w.1)

pub family_taken : (family : ℕ) → inside_b max_family family ≡ true → Checked (family_number_checks family) 0
family_taken family e = inr (inside_not max_family family e, refl)

pub stripes_taken : (stripes : ℕ) → inside_b max_stripes stripes ≡ true → Checked (stripes_checks stripes) 0
stripes_taken stripes e = inr (inside_not max_stripes stripes e, refl)

pub number_taken : (n i : ℕ) → inside_b n i ≡ true → Checked (number_checks n i) 0
number_taken n i e = inr (inside_not n i e, refl)

pub size_taken : (k m : ℕ) → size_b k m ≡ true → Checked (size_checks k m) 0
unfolding size_b
size_taken k m e =
    let w = both (inside_b max_k k) (inside_b max_m m) e in
    inr (neither (inside_not max_k k w.0) (inside_not max_m m w.1), refl)

pub table_taken : (k m : ℕ) (table : List ℕ) → table_b k m table ≡ true → Checked (table_checks k m table) 0
unfolding table_b
table_taken k m table e =
    let w = both (eqb (length table) (m * k)) (low_b table) e in
    inr (neither (λ n. n (eqb-true (length table) (m * k) w.0)) (λ x. low_entry table w.1 x.0 x.1), refl)

pub shape_taken : (k m l : ℕ) (table : List ℕ) → shape_b k m l table ≡ true → Checked (shape_checks k m l table) 0
unfolding shape_b
shape_taken k m l table e =
    let w = both (size_b k m) (inside_b max_length l && table_b k m table) e in
    let v = both (inside_b max_length l) (table_b k m table) w.1 in
    goes (size_checks k m) (length_checks l ++ table_checks k m table) 0 (numbered_by (size_checks k m) refl) (size_taken k m w.0)
    (goes (length_checks l) (table_checks k m table) 0 (numbered_by (length_checks l) refl) (inr (inside_not max_length l v.0, refl)) (table_taken k m table v.1))

pub taken_checked : (k m l : ℕ) (table : List ℕ) (marks : ℕ) → taken_b k m l table marks ≡ true → Checked (marked_checks k m l table marks) 0
unfolding taken_b
taken_checked k m l table marks e =
    let w = both (shape_b k m l table) (ltb marks (2 ^ (k + m)) && eqb (count (k + m) (mark marks)) k) e in
    let v = both (ltb marks (2 ^ (k + m))) (eqb (count (k + m) (mark marks)) k) w.1 in
    goes (shape_checks k m l table) (marks_checks k m marks) 0 (numbered_by (shape_checks k m l table) refl) (shape_taken k m l table w.0)
    (inr (
      (λ x. no_mark_above (k + m) marks (div-eq_of_lt (ltb-true marks (2 ^ (k + m)) v.0)) x.0 x.1 x.2),
      inr ((λ n. n (eqb-true (count (k + m) (mark marks)) k v.1)), refl),
    ))
