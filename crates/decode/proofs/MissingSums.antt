-- What is left of the parities when the missing sources, as far as they are known, are taken out too. Assumes nothing.
use mathlib.Core.Path.{◌≡◌, refl}
use mathlib.Core.Bool.{Bool, true, false}
use Prim.Native.Nat.{ℕ, ◌+◌, ◌%◌, ◌<◌}
use native.Mathlib.Omega.{arith}
use Rattle.bits.proofs.SumLaws.{mod_both, sum_both}
use Rattle.bits.proofs.UpLaws.{up_same, up-noughts}
use Rattle.table.specs.Desk.{Desk}
use Rattle.code.specs.Code.{Bits, sum_of}
use Rattle.walk.specs.Walk.{Gone}
use Rattle.decode.specs.Data.{in_row, missing_of, left}

module _ (D : Desk) where
  open D use {k, shift, present}

  pub missing-present : (s : Bits) (c p : ℕ) → present c ≡ true → missing_of D s c p ≡ 0
  unfolding missing_of
  missing-present s c p e = rw e

  pub missing-gone : (s : Bits) (c p : ℕ) → present c ≡ false → missing_of D s c p ≡ s c p
  unfolding missing_of
  missing-gone s c p e = rw e

  -- bit q of parity a, source c's share of it, if the source is missing
  abbrev pub missing_bit : Bits → ℕ → ℕ → ℕ → ℕ
  missing_bit s a q c = in_row D (missing_of D s) c a q

  pub missing-bit-present : (s : Bits) (a q c : ℕ) → present c ≡ true → missing_bit s a q c ≡ 0
  missing-bit-present s a q c e = up-noughts (shift a c) (missing_of D s c) q (λ p. missing-present s c p e)

  pub missing-bit-gone : (s : Bits) (a q c : ℕ) → present c ≡ false → missing_bit s a q c ≡ in_row D s c a q
  missing-bit-gone s a q c e = up_same (shift a c) (missing_of D s c) (s c) q (λ p _. missing-gone s c p e)

  -- what is left of the parities when all is taken out: first the present sources, which s₀ has alone, then the missing ones
  pub left-all : (r s₀ s : Bits) → ((c p : ℕ) → Gone D c → s₀ c p ≡ 0) → ((c p : ℕ) → present c ≡ true → s c p ≡ s₀ c p)
      → (a q : ℕ) → left D r s a q ≡ (left D r s₀ a q + sum_of D (missing_of D s) a q) % 2
  unfolding sum_of
  left-all r s₀ s blank kept a q = mod_both (r a q) _ _ _ (sum_both k _ _ _ (λ c l. go c l (present c) refl))
    where
      go : (c : ℕ) → c < k → (v : Bool) → present c ≡ v → in_row D s c a q ≡ in_row D s₀ c a q + missing_bit s a q c
      go c l true e = omega (arith, missing-bit-present s a q c e, up_same (shift a c) (s c) (s₀ c) q (λ p _. kept c p e))
      go c l false e = omega (arith, missing-bit-gone s a q c e, up-noughts (shift a c) (s₀ c) q (λ p. blank c p (l, e)))
