-- The bits that a run reads.
use Rattle.std.specs.Prelude.{◌≡◌, true, cond, ◌&&◌, [], ◌∷◌, ℕ, ◌+◌, ◌%◌, ◌≤◌, ◌<◌, eqb}
use Rattle.table.specs.Desk.{Desk}
use Rattle.code.specs.Code.{Bits, sum_of}
use Rattle.walk.specs.Walk.{Order, bump, Gone, Run, done, step}

-- bit p of source b becomes v
unfoldable pub put : Bits → ℕ → ℕ → ℕ → Bits
put s b p v c q = cond (eqb b c && eqb p q) v (s c q)

module _ (D : Desk) where
  open D use {k, shift, present}

  -- the present sources of s, and blanks for the missing ones
  unfoldable pub present_of : Bits → Bits
  present_of s c p = cond (present c) (s c p) 0

  -- s holds the present sources of x, of each missing one the bits uncovered at progress g, and nothing else
  pub record Knows (x : Bits) (g : ℕ → ℕ) (s : Bits) : Type 0 where
    pub kept : (c p : ℕ) → c < k → present c ≡ true → s c p ≡ x c p
    pub below : (c p : ℕ) → Gone D c → p < g c → s c p ≡ x c p
    pub above : (c p : ℕ) → Gone D c → g c ≤ p → s c p ≡ 0

  -- the bit read at a pair: the parity's bit, when all that is known is taken out
  abbrev pub read : Bits → Bits → (ℕ → ℕ) → ℕ → ℕ → ℕ
  read r s g a b = (r a (shift a b + g b) + sum_of D s a (shift a b + g b)) % 2

  module _ (r : Bits) where
    -- what is known after a step
    abbrev pub learn : Bits → (ℕ → ℕ) → ℕ → ℕ → Bits
    learn s g a b = put s b (g b) (read r s g a b)

    -- what is known after a run
    unfoldable pub read_by : {g h : ℕ → ℕ} {o : Order} → Run D g o h → Bits → Bits
    read_by done s = s
    read_by {g} (step a b B u) s = read_by u (learn s g a b)

    -- the same of an order alone, bare or not, from progress g on: for a list that is written down
    unfoldable pub read_along : Order → (ℕ → ℕ) → Bits → Bits
    read_along [] g s = s
    read_along ((a, b) ∷ o) g s = read_along o (bump g b) (learn s g a b)
