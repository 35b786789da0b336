-- Choices, sums, counts and searches over the numbers below a bound.
use Rattle.std.specs.Prelude.{Bool, true, false, cond, ◌&&◌, List, ℕ, zero, suc, ◌+◌, eqb, get_or}

-- a where the test is true, else b
abbrev pub pick : {A : Type 0} → Bool → A → A → A
pick true a b = a
pick false a b = b

-- a list as a function, 0 past its end
abbrev pub at : List ℕ → ℕ → ℕ
at l c = get_or l c 0

-- 1 at b, 0 elsewhere
unfoldable pub one_at : ℕ → ℕ → ℕ
one_at b c = cond (eqb b c) 1 0

-- f 0 + f 1 + .. over the numbers below k
unfoldable pub sum : ℕ → (ℕ → ℕ) → ℕ
sum zero f = 0
sum (suc k) f = sum k f + f k

-- how many numbers below n pass
abbrev pub count : ℕ → (ℕ → Bool) → ℕ
count n p = sum n (λ i. cond (p i) 1 0)

-- whether all numbers below n pass
unfoldable pub all_b : ℕ → (ℕ → Bool) → Bool
all_b zero p = true
all_b (suc n) p = all_b n p && p n

-- the lowest number below n that passes, or n
unfoldable pub lowest : ℕ → (ℕ → Bool) → ℕ
lowest zero p = zero
lowest (suc n) p = elim (p 0) [ true ↦ 0 | false ↦ suc (lowest n (λ i. p (suc i))) ]
