-- Sums modulo 2 of bits that are shifted up. Assumes nothing.
use mathlib.Core.Path.{◌≡◌, refl, sym, ap, ◌∙◌}
use Prim.Native.Nat.{ℕ, zero, suc, ◌+◌, ◌-◌, ◌%◌, ◌≤◌, ◌<◌}
use native.Mathlib.Omega.{arith}
use native.Mathlib.Nat.{mod-add-mod, add-mod-mod}
use native.Mathlib.Decide.{dec_lt}
use Rattle.bits.specs.Sums.{sum}
use Rattle.bits.specs.Bits.{up}
use Rattle.bits.proofs.SumLaws.{sum_same, sum_nought, sum_add}
use Rattle.bits.proofs.UpLaws.{up_low, up_from}
use Rattle.solve.specs.Solve.{Polynomials}

pub up_zero : (f : ℕ → ℕ) (p : ℕ) → up 0 f p ≡ f p
up_zero f p = up_from 0 f p (omega arith) ∙ ap f (omega arith)

-- what has h + k noughts below bit N and is shifted up by h at most keeps k of them
pub up_clear : (e h k N : ℕ) (f : ℕ → ℕ) (p : ℕ) → e ≤ h → ((o : ℕ) → N ≤ o + (h + k) → f o ≡ 0) → N ≤ p + k → up e f p ≡ 0
up_clear e h k N f p l clear g = elim (dec_lt p e) [
  | yes lp ↦ up_low e f p lp
  | no lp ↦ up_from e f p (omega arith) ∙ clear (p - e) (omega arith)
]

-- a sum modulo 2, shifted up
pub up_both : (e : ℕ) (f g : ℕ → ℕ) (p : ℕ) → up e (λ q. (f q + g q) % 2) p ≡ (up e f p + up e g p) % 2
up_both e f g p = elim (dec_lt p e) [
  | yes l ↦ up_low e (λ q. (f q + g q) % 2) p l ∙ rw (up_low e f p l, up_low e g p l)
  | no l ↦ up_from e (λ q. (f q + g q) % 2) p (omega arith) ∙ rw (up_from e f p (omega arith), up_from e g p (omega arith))
]

pub up-sum : (n e : ℕ) (f : Polynomials) (p : ℕ) → up e (λ q. sum n (λ c. f c q) % 2) p ≡ sum n (λ c. up e (f c) p) % 2
up-sum n e f p = elim (dec_lt p e) [
  | yes l ↦ up_low e (λ q. sum n (λ c. f c q) % 2) p l ∙ sym (ap (λ x. x % 2) (sum_nought n (λ c. up e (f c) p) (λ c _. up_low e (f c) p l)))
  | no l ↦ up_from e (λ q. sum n (λ c. f c q) % 2) p (omega arith) ∙ ap (λ x. x % 2) (sum_same n _ (λ c. up e (f c) p) (λ c _. sym (up_from e (f c) p (omega arith))))
]

-- two sums modulo 2, term by term
pub sum_pairs : (n : ℕ) (f g : ℕ → ℕ) → (sum n f % 2 + sum n g % 2) % 2 ≡ sum n (λ c. (f c + g c) % 2) % 2
unfolding sum
sum_pairs zero f g = refl
sum_pairs (suc n) f g = more (sum n f) (sum n g) (f n) (g n) (sum n (λ c. (f c + g c) % 2)) (sum_pairs n f g)
  where
    more : (a b c d s : ℕ) → (a % 2 + b % 2) % 2 ≡ s % 2 → ((a + c) % 2 + (b + d) % 2) % 2 ≡ (s + (c + d) % 2) % 2
    more a b c d s e = simp (mod-add-mod, add-mod-mod) (omega (arith, simp (mod-add-mod, add-mod-mod) at e))

-- the terms before term q, term q, and those after it
pub sum_around : (n q : ℕ) (f : ℕ → ℕ) → q < n → sum n f ≡ sum q f + f q + sum (n - (q + 1)) (λ c. f (q + 1 + c))
unfolding sum
sum_around n q f l =
    let e : n ≡ suc q + (n - (q + 1)) = omega arith in
    ap (λ x. sum x f) e ∙ sum_add f (suc q) (n - (q + 1)) ∙ ap (λ x. sum q f + f q + x) (sum_same (n - (q + 1)) _ _ (λ c _. ap f (omega arith)))

-- what is added twice drops out
pub added_twice : (a s : ℕ) → a < 2 → ((a + s) % 2 + s) % 2 ≡ a
added_twice a s l = simp mod-add-mod (omega arith)
