-- Laws of one_at, and of sums, counts and searches over the numbers below a bound.
use mathlib.Core.Path.{◌≡◌, refl, sym, ap, ap₂, ◌∙◌}
use mathlib.Core.Logic.{◌≢◌}
use mathlib.Core.Bool.{Bool, true, false, cond, not, and-eq-true_iff, and-true, true≢false}
use Prim.Native.Nat.{ℕ, zero, suc, ◌+◌, ◌-◌, ◌*◌, ◌%◌, ◌≤◌, ◌<◌}
use native.Mathlib.Omega.{arith}
use native.Mathlib.Nat.{add-zero, add-suc, mod-add-mod}
use native.Mathlib.Numerals.{add-one}
use native.Mathlib.Decide.{ℕ_discrete}
use borrow.Author.Tests.{eq-eqb, ne_eqb}
use Rattle.bits.specs.Sums.{one_at, sum, count, all_b, lowest}

pub one_at_same : (b c : ℕ) → b ≡ c → one_at b c ≡ 1
unfolding one_at
one_at_same b c e = rw (eq-eqb b c e)

pub one_at_other : (b c : ℕ) → b ≢ c → one_at b c ≡ 0
unfolding one_at
one_at_other b c ne = rw (ne_eqb b c ne)

-- what is added at one place only is the same by either place's value
pub one_at_times : (i j x y : ℕ) → (i ≡ j → x ≡ y) → one_at i j * x ≡ one_at i j * y
one_at_times i j x y h = elim (ℕ_discrete i j) [
  | yes e ↦ ap (λ v. one_at i j * v) (h e)
  | no ne ↦ rw (one_at_other i j ne) (omega arith)
]

-- one term more in a sum modulo 2
pub mod_more : (x y d e : ℕ) → x ≡ (y + d) % 2 → (x + e) % 2 ≡ (y + (d + e)) % 2
mod_more x y d e h = rw (h, mod-add-mod) (ap (λ v. v % 2) (omega arith))

pub mod_both : (r f g d : ℕ) → f ≡ g + d → (r + f) % 2 ≡ ((r + g) % 2 + d) % 2
mod_both r f g d e = rw (e, mod-add-mod) (ap (λ x. x % 2) (omega arith))

pub sum_same : (k : ℕ) (f f' : ℕ → ℕ) → ((c : ℕ) → c < k → f c ≡ f' c) → sum k f ≡ sum k f'
unfolding sum
sum_same zero f f' h = refl
sum_same (suc k) f f' h = ap₂ ◌+◌ (sum_same k f f' (λ c lt. h c (omega arith))) (h k (omega arith))

pub sum_nought : (k : ℕ) (f : ℕ → ℕ) → ((c : ℕ) → c < k → f c ≡ 0) → sum k f ≡ 0
unfolding sum
sum_nought zero f h = refl
sum_nought (suc k) f h = omega (arith, sum_nought k f (λ c lt. h c (omega arith)), h k (omega arith))

pub sum_le : (k : ℕ) (f f' : ℕ → ℕ) → ((c : ℕ) → c < k → f c ≤ f' c) → sum k f ≤ sum k f'
unfolding sum
sum_le zero f f' h = omega arith
sum_le (suc k) f f' h = omega (arith, sum_le k f f' (λ c lt. h c (omega arith)), h k (omega arith))

-- a family that is the sum of two
pub sum_both : (k : ℕ) (f g h : ℕ → ℕ) → ((c : ℕ) → c < k → f c ≡ g c + h c) → sum k f ≡ sum k g + sum k h
unfolding sum
sum_both zero f g h e = refl
sum_both (suc k) f g h e = omega (arith, sum_both k f g h (λ c l. e c (omega arith)), e k (omega arith))

-- two families that differ at b only
pub sum_but : (k b : ℕ) (f f' : ℕ → ℕ) → b < k → ((c : ℕ) → c < k → b ≢ c → f c ≡ f' c) → sum k f + f' b ≡ sum k f' + f b
unfolding sum
sum_but zero b f f' lt h = absurd (omega arith)
sum_but (suc k) b f f' lt h =
    elim (ℕ_discrete b k) [
      | yes p ↦ omega (arith, sum_same k f f' (λ c l. h c (omega arith) (omega arith)), ap f p, ap f' p)
      | no ne ↦ omega (arith, sum_but k b f f' (omega arith) (λ c l n. h c (omega arith) n), h k (omega arith) ne)
    ]

pub sum_add : (f : ℕ → ℕ) (k m : ℕ) → sum (k + m) f ≡ sum k f + sum m (λ i. f (k + i))
unfolding sum
sum_add f k zero = rw (add-zero k) (omega arith)
sum_add f k (suc m) = rw add-suc (omega (arith, sum_add f k m))

pub sum_grows : (f : ℕ → ℕ) (i j : ℕ) → i ≤ j → sum i f ≤ sum j f
sum_grows f i j h = omega (arith, sum_add f i (j - i), ap (λ x. sum x f) e)
  where
    e : i + (j - i) ≡ j
    e = omega arith

pub count_in : (n : ℕ) (p : ℕ → Bool) → p n ≡ true → count (suc n) p ≡ suc (count n p)
unfolding sum
count_in n p e = rw e (omega arith)

pub count-out : (n : ℕ) (p : ℕ → Bool) → p n ≡ false → count (suc n) p ≡ count n p
unfolding sum
count-out n p e = rw e (omega arith)

pub count_add : (p : ℕ → Bool) (k m : ℕ) → count (k + m) p ≡ count k p + count m (λ i. p (k + i))
count_add p k m = sum_add _ k m

pub count_grows : (p : ℕ → Bool) (i j : ℕ) → i ≤ j → count i p ≤ count j p
count_grows p i j h = sum_grows _ i j h

pub cond_le : (v : Bool) (x y : ℕ) → (v ≡ true → x ≤ y) → cond v x 0 ≤ cond v y 0
cond_le true x y h = h refl
cond_le false x y h = omega arith

pub cond_times : (v : Bool) (x : ℕ) → cond v x 0 ≡ x * cond v 1 0
cond_times true x = omega arith
cond_times false x = omega arith

cond_not : (v : Bool) → cond v 1 0 + cond (not v) 1 0 ≡ 1
cond_not true = refl
cond_not false = refl

-- N for each
pub sum_each : (N k : ℕ) (p : ℕ → Bool) → sum k (λ c. cond (p c) N 0) ≡ N * count k p
unfolding sum
sum_each N zero p = omega arith
sum_each N (suc k) p = omega (arith, sum_each N k p, cond_times (p k) N)

pub count_not : (n : ℕ) (p : ℕ → Bool) → count n p + count n (λ i. not (p i)) ≡ n
unfolding sum
count_not zero p = refl
count_not (suc n) p = omega (arith, count_not n p, cond_not (p n))

pub all-at : (n : ℕ) (p : ℕ → Bool) → all_b n p ≡ true → (i : ℕ) → i < n → p i ≡ true
unfolding all_b
all-at zero p h i l = absurd (omega arith)
all-at (suc n) p h i l =
    let w = (and-eq-true_iff (all_b n p) (p n)).0 h in
    elim (ℕ_discrete i n) [ yes e ↦ ap p e ∙ w.1 | no ne ↦ all-at n p w.0 i (omega arith) ]

pub all_of : (n : ℕ) (p : ℕ → Bool) → ((i : ℕ) → i < n → p i ≡ true) → all_b n p ≡ true
unfolding all_b
all_of zero p h = refl
all_of (suc n) p h = (and-eq-true_iff (all_b n p) (p n)).1 (all_of n p (λ i l. h i (omega arith)), h n (omega arith))

pub all_more : (n : ℕ) (p : ℕ → Bool) → all_b n p ≡ true → p n ≡ true → all_b (n + 1) p ≡ true
unfolding all_b
all_more n p h e = rw (add-one, h, e)

pub all_miss : (n : ℕ) (p : ℕ → Bool) (i : ℕ) → i < n → p i ≡ false → all_b n p ≡ false
all_miss n p i l e = go (all_b n p) refl
  where
    go : (v : Bool) → all_b n p ≡ v → v ≡ false
    go false h = refl
    go true h = absurd (true≢false (sym (all-at n p h i l) ∙ e))

-- one that fails
pub all_some : (n : ℕ) (p : ℕ → Bool) → all_b n p ≡ false → (i : ℕ) × (i < n) × (p i ≡ false)
unfolding all_b
all_some zero p h = absurd (true≢false h)
all_some (suc n) p h = go (p n) refl (all_some n p)
  where
    go : (v : Bool) → p n ≡ v → (all_b n p ≡ false → (i : ℕ) × (i < n) × (p i ≡ false)) → (i : ℕ) × (i < suc n) × (p i ≡ false)
    go false e ih = (n, omega arith, e)
    go true e ih = let r = ih (sym (and-true (all_b n p)) ∙ rw e at h) in (r.0, omega arith, r.2)

pub lowest_is : (n : ℕ) (p : ℕ → Bool) → lowest n p < n → p (lowest n p) ≡ true
unfolding lowest
lowest_is zero p l = absurd (omega arith)
lowest_is (suc n) p l = go (p 0) refl l (lowest_is n (λ i. p (suc i)))
  where
    go : (v : Bool) → p 0 ≡ v → lowest (suc n) p < suc n → (lowest n (λ i. p (suc i)) < n → p (suc (lowest n (λ i. p (suc i)))) ≡ true) → p (lowest (suc n) p) ≡ true
    go true e l ih = rw (e, lowest) e
    go false e l ih = rw (e, lowest) (ih (omega (arith, rw (e, lowest) at l)))

pub lowest_not : (n : ℕ) (p : ℕ → Bool) (i : ℕ) → i < lowest n p → p i ≡ true → ⊥
unfolding lowest
lowest_not zero p i l e = omega arith
lowest_not (suc n) p i l e = go i (p 0) refl l e (lowest_not n (λ i. p (suc i)))
  where
    go : (j : ℕ) (v : Bool) → p 0 ≡ v → j < lowest (suc n) p → p j ≡ true → ((i : ℕ) → i < lowest n (λ i. p (suc i)) → p (suc i) ≡ true → ⊥) → ⊥
    go j true f l e ih = absurd (omega (arith, rw (f, lowest) at l))
    go zero false f l e ih = true≢false (sym e ∙ f)
    go (suc j) false f l e ih = ih j (omega (arith, rw (f, lowest) at l)) e

-- a search that goes up by one finds the lowest
pub lowest_found : (n : ℕ) (p : ℕ → Bool) (i : ℕ) → i < n → p i ≡ true → ((j : ℕ) → j < i → p j ≡ false) → lowest n p ≡ i
unfolding lowest
lowest_found zero p i l e h = absurd (omega arith)
lowest_found (suc n) p zero l e h = rw (e, lowest)
lowest_found (suc n) p (suc i) l e h =
    rw (h 0 (omega arith), lowest) (ap suc (lowest_found n (λ j. p (suc j)) i (omega arith) e (λ j q. h (suc j) (omega arith))))

pub lowest_none : (n : ℕ) (p : ℕ → Bool) → ((j : ℕ) → j < n → p j ≡ false) → lowest n p ≡ n
unfolding lowest
lowest_none zero p h = refl
lowest_none (suc n) p h =
    rw (h 0 (omega arith), lowest) (ap suc (lowest_none n (λ j. p (suc j)) (λ j q. h (suc j) (omega arith))))
