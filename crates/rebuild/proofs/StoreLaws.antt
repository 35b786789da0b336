-- Sources stored one after another, from the rows. Assumes nothing.
use mathlib.Core.Path.{◌≡◌, ◌∙◌}
use mathlib.Core.List.{List}
use Prim.Native.Nat.{ℕ, ◌+◌, ◌*◌, ◌<◌}
use native.Mathlib.Omega.{arith}
use native.Mathlib.Nat.{mul-le-mul_right}
use native.Mathlib.Decide.{ℕ_discrete}
use Rattle.bits.specs.Bits.{bit_at}
use Rattle.rows.specs.Rows.{row_in, Stored}

module _ (bytes : ℕ) (rows : List ℕ) where
  -- the first n sources stand in their places
  abbrev pub StandBelow : ℕ → List ℕ → Type 0
  StandBelow n out = (c q : ℕ) → c < n → q < 8 * bytes → bit_at out (8 * (c * bytes) + q) ≡ row_in rows c q

  pub stand_none : (out : List ℕ) → StandBelow 0 out
  stand_none out c q l _ = absurd (omega arith)

  pub stand_more : (n : ℕ) (out out' : List ℕ) → Stored (n * bytes) bytes (row_in rows n) out out' → StandBelow n out → StandBelow (n + 1) out'
  stand_more n out out' S h c q l lq = elim (ℕ_discrete n c) [
    | yes e ↦ rw (← e) (S.here q lq)
    | no ne ↦ let before : c < n = omega arith in S.below (8 * (c * bytes) + q) (omega (arith, mul-le-mul_right bytes before)) ∙ h c q before lq
  ]
