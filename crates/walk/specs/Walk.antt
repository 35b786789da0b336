-- Bare pairs, steps and runs.
use Rattle.std.specs.Prelude.{◌≡◌, ◌≢◌, true, false, List, [], ◌∷◌, ℕ, ◌+◌, ◌≤◌, ◌<◌, set}
use Rattle.bits.specs.Sums.{at, one_at}
use Rattle.table.specs.Desk.{Desk}

-- one more bit of source b is uncovered
abbrev pub bump : (ℕ → ℕ) → ℕ → ℕ → ℕ
bump g b c = g c + one_at b c

-- pairs of a parity and a source, from 0
abbrev pub Order : Type 0
Order = List (ℕ × ℕ)

module _ (D : Desk) where
  open D use {k, m, bits, shift, present}

  -- source b is missing
  abbrev pub Gone : ℕ → Type 0
  Gone b = (b < k) × (present b ≡ false)

  -- parity a is at hand
  abbrev pub Held : ℕ → Type 0
  Held a = (a < m) × (present (k + a) ≡ true)

  -- source b is missing and unfinished
  abbrev pub Free : (ℕ → ℕ) → ℕ → Type 0
  Free g b = Gone b × (g b < bits)

  -- at progress g: parity a is at hand, source b missing and unfinished, and its next bit stands lower there than that of every other such source
  pub record Bare (g : ℕ → ℕ) (a b : ℕ) : Type 0 where
    pub held : Held a
    pub free : Free g b
    pub lowest : (c : ℕ) → b ≢ c → Free g c → shift a b + g b < shift a c + g c

  -- no pair is bare
  abbrev pub Stuck : (ℕ → ℕ) → Type 0
  Stuck g = (a b : ℕ) → Bare g a b → ⊥

  -- the steps of an order, one after the other, lead from one progress to another
  pub data Run : (ℕ → ℕ) → Order → (ℕ → ℕ) → Type 0 where
    done : {g : ℕ → ℕ} → Run g [] g
    step : {g h : ℕ → ℕ} {o : Order} (a b : ℕ) → Bare g a b → Run (bump g b) o h → Run g ((a, b) ∷ o) h

  -- no source is past its end
  abbrev pub Fits : (ℕ → ℕ) → Type 0
  Fits g = (b : ℕ) → g b ≤ bits

  -- every missing source is at its end
  abbrev pub Whole : (ℕ → ℕ) → Type 0
  Whole g = (b : ℕ) → Gone b → g b ≡ bits

  -- the bare pair with the lowest parity, then the lowest source
  pub record Lowest (g : ℕ → ℕ) (a b : ℕ) : Type 0 where
    pub bare : Bare g a b
    pub parity_low : (a' b' : ℕ) → Bare g a' b' → a ≤ a'
    pub source_low : (b' : ℕ) → Bare g a b' → b ≤ b'

  -- the pair, from 1, and the progress after it; (0, 0) and the same progress if none is bare
  pub data Next (g : List ℕ) (parity source : ℕ) (after : List ℕ) : Type 0 where
    none : Stuck (at g) → parity ≡ 0 → source ≡ 0 → after ≡ g → Next g parity source after
    one : (a b : ℕ) → Lowest (at g) a b → parity ≡ a + 1 → source ≡ b + 1 → after ≡ set g b (at g b + 1) → Next g parity source after
