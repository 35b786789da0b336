-- Laws of bits shifted up.
use mathlib.Core.Path.{◌≡◌, sym, ap, ◌∙◌}
use Prim.Native.Nat.{ℕ, ◌+◌, ◌-◌, ◌≤◌, ◌<◌}
use native.Mathlib.Omega.{arith}
use native.Mathlib.Decide.{dec_lt}
use borrow.Author.Tests.{lt-ltb, le-ltb}
use Rattle.bits.specs.Bits.{up}

pub up_at : (e : ℕ) (f : ℕ → ℕ) (p : ℕ) → up e f (e + p) ≡ f p
unfolding up
up_at e f p = rw (le-ltb (e + p) e (omega arith)) (ap f (omega arith))

pub up_low : (e : ℕ) (f : ℕ → ℕ) (p : ℕ) → p < e → up e f p ≡ 0
unfolding up
up_low e f p l = rw (lt-ltb p e l)

pub up_from : (e : ℕ) (f : ℕ → ℕ) (p : ℕ) → e ≤ p → up e f p ≡ f (p - e)
unfolding up
up_from e f p l = rw (le-ltb p e l)

pub up_same : (e : ℕ) (f f' : ℕ → ℕ) (q : ℕ) → ((p : ℕ) → q ≡ e + p → f p ≡ f' p) → up e f q ≡ up e f' q
up_same e f f' q h = elim (dec_lt q e) [
  | yes l ↦ up_low e f q l ∙ sym (up_low e f' q l)
  | no l ↦ up_from e f q (omega arith) ∙ h (q - e) (omega arith) ∙ sym (up_from e f' q (omega arith))
]

-- past the last bit nothing stands
pub up_high : (e : ℕ) (f : ℕ → ℕ) (n q : ℕ) → ((p : ℕ) → n ≤ p → f p ≡ 0) → e + n ≤ q → up e f q ≡ 0
up_high e f n q z l = up_from e f q (omega arith) ∙ z (q - e) (omega arith)

-- noughts, shifted up
pub up-noughts : (e : ℕ) (f : ℕ → ℕ) (q : ℕ) → ((p : ℕ) → f p ≡ 0) → up e f q ≡ 0
up-noughts e f q z = elim (dec_lt q e) [
  | yes l ↦ up_low e f q l
  | no l ↦ up_from e f q (omega arith) ∙ z _
]

-- a sum, shifted up
pub up_add : (e : ℕ) (f g : ℕ → ℕ) (p : ℕ) → up e (λ q. f q + g q) p ≡ up e f p + up e g p
up_add e f g p = elim (dec_lt p e) [
  | yes l ↦ omega (arith, up_low e (λ q. f q + g q) p l, up_low e f p l, up_low e g p l)
  | no l ↦ let h : e ≤ p = omega arith in omega (arith, up_from e (λ q. f q + g q) p h, up_from e f p h, up_from e g p h)
]

pub up_up : (a b : ℕ) (f : ℕ → ℕ) (p : ℕ) → up a (up b f) p ≡ up (a + b) f p
up_up a b f p = elim (dec_lt p a) [
  | yes l ↦ up_low a (up b f) p l ∙ sym (up_low (a + b) f p (omega arith))
  | no l ↦ up_from a (up b f) p (omega arith) ∙ elim (dec_lt (p - a) b) [
    | yes m ↦ up_low b f (p - a) m ∙ sym (up_low (a + b) f p (omega arith))
    | no m ↦ up_from b f (p - a) (omega arith) ∙ ap f (omega arith) ∙ sym (up_from (a + b) f p (omega arith))
  ]
]

-- bits stay bits
pub up_lt : (e : ℕ) (f : ℕ → ℕ) (p : ℕ) → ((q : ℕ) → f q < 2) → up e f p < 2
up_lt e f p h = elim (dec_lt p e) [
  | yes l ↦ rw (up_low e f p l) (omega arith)
  | no l ↦ rw (up_from e f p (omega arith)) (h (p - e))
]
