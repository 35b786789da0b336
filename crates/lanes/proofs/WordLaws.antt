-- Laws of words that are built up bit by bit, the highest bit first. Assumes nothing.
use mathlib.Core.Path.{◌≡◌, refl, sym, ap, ◌∙◌}
use Prim.Native.Nat.{ℕ, zero, suc, ◌+◌, ◌-◌, ◌*◌, ◌/◌, ◌%◌, ◌^◌, ◌≤◌, ◌<◌}
use native.Mathlib.Omega.{arith}
use lib.Pow.{pow-add, pow_mono, pow_pos}
use Rattle.bits.specs.Bits.{bit}
use Rattle.bits.proofs.BitLaws.{bit_low, bit_half}

-- a word moved up by one, with bit b below it
bit_pushed : (w b : ℕ) → b < 2 → bit (w * 2 + b) 0 ≡ b
bit_pushed w b l = bit_low (w * 2 + b) ∙ omega arith

bit_moved : (w b j : ℕ) → b < 2 → bit (w * 2 + b) (suc j) ≡ bit w j
bit_moved w b j l =
    let e : (w * 2 + b) / 2 ≡ w = omega arith in
    sym (bit_half (w * 2 + b) j) ∙ ap (λ (x : ℕ). bit x j) e

-- a word of the bits f from t on, up to n
pub record Built (n : ℕ) (f : ℕ → ℕ) (t word : ℕ) : Type 0 where
  pub most : t ≤ n
  pub bits : (j : ℕ) → t + j < n → bit word j ≡ f (t + j)
  pub low : word < 2 ^ (n - t)

pub built_none : (n : ℕ) (f : ℕ → ℕ) → Built n f n 0
built_none n f = record { most = omega arith; bits = λ j l. absurd (omega arith); low = pow_pos (n - n) }

-- the next bit, below the others
pub built_more : (n : ℕ) (f : ℕ → ℕ) (t word b : ℕ) → 0 < t → Built n f t word → b < 2 → b ≡ f (t - 1) → Built n f (t - 1) (word * 2 + b)
built_more n f t word b some B lb e = record {
  most = omega (arith, B.most);
  bits = at;
  low = below;
}
  where
    at : (j : ℕ) → t - 1 + j < n → bit (word * 2 + b) j ≡ f (t - 1 + j)
    at zero l = bit_pushed word b lb ∙ e ∙ ap f (omega arith)
    at (suc j) l = bit_moved word b j lb ∙ B.bits j (omega arith) ∙ ap f (omega arith)

    below : word * 2 + b < 2 ^ (n - (t - 1))
    below =
        let size : n - (t - 1) ≡ 1 + (n - t) = omega (arith, B.most) in
        rw (size, pow-add 2 1 (n - t)) (omega (arith, B.low))

-- which fits where all of them do
pub built_fits : (n m : ℕ) (f : ℕ → ℕ) (t word b : ℕ) → 0 < t → n ≤ m → Built n f t word → b < 2 → word * 2 + b < 2 ^ m
built_fits n m f t word b some l B lb =
    let size : 1 + (n - t) ≤ m = omega (arith, B.most) in
    omega (arith, B.low, pow-add 2 1 (n - t), pow_mono {i = 1 + (n - t)} {j = m} size)

-- down to 0 it has all of them
pub built_all : (n : ℕ) (f : ℕ → ℕ) (t word : ℕ) → t ≤ 0 → Built n f t word → (j : ℕ) → j < n → bit word j ≡ f j
built_all n f t word none B j l = B.bits j (omega arith) ∙ ap f (omega arith)

-- bit t of a word as code takes it
pub bit_taken : (x t : ℕ) → (x / 2 ^ t % 2 ≡ bit x t) × (x / 2 ^ t % 2 < 2)
unfolding bit
bit_taken x t = (refl, omega arith)
