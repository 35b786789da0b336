-- A word cut short, and a row word by word. Assumes nothing.
use Rattle.std.proofs.Common.{◌≡◌, ℕ, ◌+◌, ◌-◌, ◌*◌, ◌%◌, ◌^◌, ◌<◌, ◌≤◌, cond, ltb, ap, ◌∙◌, mod-lt, arith, lit<, pow_pos, shl_exact, le-ltb, lt-ltb}
use native.Mathlib.Decide.{dec_lt}
use Rattle.bits.specs.Bits.{bit}
use Rattle.bits.proofs.BitLaws.{bit_mod, bit_high, bit_zero}

-- 1 shifted up within a word
pub one_shl : (d : ℕ) → d < 64 → 1 * 2 ^ d % 2 ^ 64 ≡ 2 ^ d
one_shl d l = shl_exact 1 d 64 (lit< tt) (omega arith) ∙ omega arith

-- the bits of g below bit n
abbrev pub cut_at : ℕ → (ℕ → ℕ) → ℕ → ℕ
cut_at n g p = cond (ltb p n) (g p) 0

module _ (x from n t : ℕ) (lt : t < 64) where
  -- a word past bit n
  pub word_none : n ≤ from → bit 0 t ≡ cond (ltb (from + t) n) (bit x t) 0
  word_none l = bit_zero t ∙ rw (le-ltb (from + t) n (omega arith))

  -- a word that bit n stands in
  pub word_cut : from < n → n < from + 64 → bit (x % (1 * 2 ^ (n - from) % 2 ^ 64)) t ≡ cond (ltb (from + t) n) (bit x t) 0
  word_cut l h = ap (λ y. bit (x % y) t) (one_shl (n - from) (omega arith)) ∙ elim (dec_lt (from + t) n) [
    | yes s ↦ rw (lt-ltb (from + t) n s) (bit_mod x (n - from) t (omega arith))
    | no s ↦ rw (le-ltb (from + t) n (omega arith)) (bit_high (x % 2 ^ (n - from)) (n - from) t (mod-lt x (pow_pos (n - from))) (omega arith))
  ]
