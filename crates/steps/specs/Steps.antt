-- Lists of steps as they are written down: a parity and a source for each step, both counted from 1.
use Rattle.std.specs.Prelude.{◌≡◌, List, map, ℕ, ◌+◌, ◌<◌, length, take}
use Rattle.bits.specs.Sums.{at}
use Rattle.table.specs.Desk.{Desk}
use Rattle.walk.specs.Walk.{Order, Bare, Run, Whole}

-- the numbers of the parities and of the sources of an order, from 1
abbrev pub parity_numbers : Order → List ℕ
parity_numbers = map (λ p. p.0 + 1)

abbrev pub source_numbers : Order → List ℕ
source_numbers = map (λ p. p.1 + 1)

-- two lists are the numbers of this order
pub record Lists (parities sources : List ℕ) (order : Order) : Type 0 where
  pub parities_are : parities ≡ parity_numbers order
  pub sources_are : sources ≡ source_numbers order

-- two entries are the numbers of a parity and a source that are bare at progress g; 0 is the number of none
pub record BareStep (D : Desk) (g : ℕ → ℕ) (parity source : ℕ) : Type 0 where
  pub a : ℕ
  pub b : ℕ
  pub parity_is : parity ≡ a + 1
  pub source_is : source ≡ b + 1
  pub bare : Bare D g a b

module _ (D : Desk) (parities sources : List ℕ) where
  -- the first n entries of both lists are the numbers of an order whose steps, each bare when its turn comes, lead from nothing to g
  pub record Led (n : ℕ) (g : ℕ → ℕ) : Type 0 where
    pub order : Order
    pub long : length order ≡ n
    pub lists : Lists (take n parities) (take n sources) order
    pub run : Run D (λ c. 0) order g

  -- the step at a place, from 1 to the length, is the first that is not bare when its turn comes
  pub record FirstBad (place : ℕ) : Type 0 where
    pub before : ℕ
    pub counted : place ≡ before + 1
    pub inside : before < length parities
    pub progress : ℕ → ℕ
    pub led : Led before progress
    pub bad : BareStep D progress (at parities before) (at sources before) → ⊥

  -- every step is bare when its turn comes, and a missing source is not whole at the end
  pub record EndsEarly : Type 0 where
    pub progress : ℕ → ℕ
    pub led : Led (length parities) progress
    pub not_whole : Whole D progress → ⊥

  -- there is a source for each parity, every step is bare when its turn comes, and all missing sources are whole at the end
  pub record Complete : Type 0 where
    pub as_long : length parities ≡ length sources
    pub progress : ℕ → ℕ
    pub led : Led (length parities) progress
    pub whole : Whole D progress
