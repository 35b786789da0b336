-- A row shifted up, word by word: what stays in a word, and what is carried into the next. Assumes nothing.
use Rattle.std.proofs.Common.{◌≡◌, ℕ, ◌+◌, ◌-◌, ◌*◌, ◌%◌, ◌^◌, ◌<◌, ◌≤◌, cond, ltb, sym, ap, ◌∙◌, ap₂, arith, le-ltb, lt-ltb}
use native.Mathlib.Decide.{dec_lt}
use lib.Bits.{bit_xor}
use Rattle.bits.specs.Bits.{bit, up}
use Rattle.bits.proofs.BitLaws.{bit-xor, bit_shl, bit_shl_low, bit_mod, bit_high, bit_zero}
use Rattle.bits.proofs.UpLaws.{up_low, up_from, up_lt}

-- a word shifted up, cut at its 64 bits
pub word_shl : (x s t : ℕ) → t < 64 → bit (x * 2 ^ s % 2 ^ 64) t ≡ up s (bit x) t
word_shl x s t l = bit_mod (x * 2 ^ s) 64 t l ∙ elim (dec_lt t s) [
  | yes g ↦ bit_shl_low x s t g ∙ sym (up_low s (bit x) t g)
  | no g ↦ let e : t ≡ s + (t - s) = omega arith in ap (bit (x * 2 ^ s)) e ∙ bit_shl x s (t - s) ∙ sym (up_from s (bit x) t (omega arith))
]

-- what crosses into word c of g, shifted up by e
abbrev pub Carries : ℕ → (ℕ → ℕ) → ℕ → ℕ → Type 0
Carries e g c carry = (t : ℕ) → t < 64 → bit carry t ≡ cond (ltb t e) (up e g (c * 64 + t)) 0

module _ (e : ℕ) (g : ℕ → ℕ) (small : (p : ℕ) → g p < 2) (le : e ≤ 64) where
  pub carries_none : Carries e g 0 0
  carries_none t l = bit_zero t ∙ sym (elim (dec_lt t e) [
    | yes h ↦ rw (lt-ltb t e h) (up_low e g (0 * 64 + t) (omega arith))
    | no h ↦ rw (le-ltb t e (omega arith))
  ])

  module _ (c x carry : ℕ) (is : (t : ℕ) → t < 64 → bit x t ≡ g (c * 64 + t)) where
    -- a word shifted up, with what crosses into it
    pub word_raised : e < 64 → Carries e g c carry → (t : ℕ) → t < 64 → bit (bit_xor (x * 2 ^ e % 2 ^ 64) carry) t ≡ up e g (c * 64 + t)
    word_raised l h t lt = bit-xor (x * 2 ^ e % 2 ^ 64) carry t ∙ ap₂ (λ y z. (y + z) % 2) (word_shl x e t lt) (h t lt) ∙ elim (dec_lt t e) [
      | yes s ↦ rw (up_low e (bit x) t s, lt-ltb t e s) (omega (arith, up_lt e g (c * 64 + t) small))
      | no s ↦ rw (le-ltb t e (omega arith)) (
          let here : up e (bit x) t ≡ up e g (c * 64 + t) = up_from e (bit x) t (omega arith) ∙ is (t - e) (omega arith) ∙ ap g (omega arith) ∙ sym (up_from e g (c * 64 + t) (omega arith)) in
          omega (arith, here, up_lt e g (c * 64 + t) small))
    ]

    -- what crosses out of it
    pub carries_more : x < 2 ^ 64 → (y n : ℕ) → ((t : ℕ) → bit y t ≡ bit x (n + t)) → n + e ≡ 64 → Carries e g (c + 1) y
    carries_more word y n shifted en t lt = shifted t ∙ elim (dec_lt t e) [
      | yes s ↦ rw (lt-ltb t e s) (is (n + t) (omega arith) ∙ ap g (omega arith) ∙ sym (up_from e g ((c + 1) * 64 + t) (omega arith)))
      | no s ↦ rw (le-ltb t e (omega arith)) (bit_high x 64 (n + t) word (omega arith))
    ]
