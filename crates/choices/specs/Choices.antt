-- Choices of packet numbers, and their dictionary order.
use Rattle.std.specs.Prelude.{◌≡◌, ◌⊎◌, List, [], ◌∷◌, ◌++◌, ℕ, zero, suc, ◌+◌, ◌-◌, ◌≤◌, ◌<◌, length, replicate}
use Rattle.table.specs.Limits.{max_k}

-- numbers above low that rise, none above high
abbrev pub Rising : ℕ → ℕ → List ℕ → Type 0
Rising low high [] = Unit
Rising low high (x ∷ xs) = (low < x) × (x ≤ high) × Rising x high xs

-- a choice of k of the numbers 1 to n
pub record Choice (k n : ℕ) (ids : List ℕ) : Type 0 where
  pub size : length ids ≡ k
  pub rising : Rising 0 n ids

-- dictionary order: at the first number that differs, the lesser
abbrev pub Before : List ℕ → List ℕ → Type 0
Before [] ys = ⊥
Before (x ∷ xs) [] = ⊥
Before (x ∷ xs) (y ∷ ys) = (x < y) ⊎ ((x ≡ y) × Before xs ys)

-- ids is the first choice
pub record First (k n : ℕ) (ids : List ℕ) : Type 0 where
  pub choice : Choice k n ids
  pub least : (others : List ℕ) → Choice k n others → (others ≡ ids) ⊎ Before ids others

-- ids is the least choice after from
pub record Next (k n : ℕ) (from ids : List ℕ) : Type 0 where
  pub choice : Choice k n ids
  pub after : Before from ids
  pub least : (others : List ℕ) → Choice k n others → Before from others → (others ≡ ids) ⊎ Before ids others

-- no choice comes after
abbrev pub Last : ℕ → ℕ → List ℕ → Type 0
Last k n from = (others : List ℕ) → Choice k n others → Before from others → ⊥

-- n numbers that count up from a
abbrev pub run : ℕ → ℕ → List ℕ
run a zero = []
run a (suc n) = a ∷ run (suc a) n

-- as high as can be: each number leaves just room for those after it, up to n
abbrev pub Full : ℕ → List ℕ → Type 0
Full n [] = Unit
Full n (x ∷ xs) = (x + length xs ≡ n) × Full n xs

-- a choice as the code holds it: eight numbers, noughts after those of the choice
abbrev pub padded : List ℕ → List ℕ
padded ids = ids ++ replicate (max_k - length ids) 0
