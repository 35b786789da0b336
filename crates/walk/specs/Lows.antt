-- The lowest next bit as the code keeps it: for the code's inner contracts.
use Rattle.std.specs.Prelude.{◌≡◌, ℕ, ◌+◌, ◌<◌, Option, Some, None}

-- above every place
abbrev pub no_place : ℕ
no_place = 18446744073709551615

-- s, a place and its source as they are computed, is kept as a place and whose it is: nobody's where there is none yet, or where two share it
pub data Lows (k place : ℕ) (source : Option ℕ) (s : ℕ × ℕ) : Type 0 where
  nobody : source ≡ None → place ≡ no_place → s.1 ≡ k → Lows k place source s
  alone : (b : ℕ) → source ≡ Some b → b < k → s ≡ (place, b) → Lows k place source s
  shared : source ≡ None → s ≡ (place, k + 1) → Lows k place source s

-- so kept, and where it is nobody's the place tells why: what two share stands below no_place
pub record LowsApart (k place : ℕ) (source : Option ℕ) (s : ℕ × ℕ) : Type 0 where
  pub lows : Lows k place source s
  pub below : source ≡ None → s.1 ≡ k + 1 → place < no_place
