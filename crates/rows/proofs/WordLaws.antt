-- Laws of bytes as one number, eight or those that are left, and of what crosses into a word that is shifted up. Assumes nothing.
use Rattle.std.proofs.Common.{
  ◌≡◌,
  ℕ,
  suc,
  ◌+◌,
  ◌-◌,
  ◌*◌,
  ◌/◌,
  ◌%◌,
  ◌^◌,
  ◌<◌,
  ◌≤◌,
  List,
  length,
  get_or,
  drop,
  sym,
  ap,
  ◌∙◌,
  lt_of_lt_of_le,
  mod-lt,
  arith,
  lit<,
  length-drop,
  get_or-drop,
  pow_pos,
  pow_mono,
  pow-add,
  shl_lt,
}
use native.Mathlib.Decide.{dec_lt}
use lib.Bits.{bit_or, bit_xor, or_shifted, xor_shifted}
use lib.Pow.{split, high, low}
use Rattle.bits.specs.Bits.{bit, bit_at, num, slice, Bytes}
use Rattle.bits.proofs.BitLaws.{bit_mod, bit_shr, bit_at-at, bit_at-take, bit_at-drop, bit_at_past, bit-num, bit_zero, num-take_suc}
use Rattle.bits.proofs.SliceLaws.{slice_bytes}

-- ---- eight bytes

-- the first j + 1 bytes from byte i on
num_more : (xs : List ℕ) (i j : ℕ) → i + j < length xs → num (slice xs i (suc j)) ≡ get_or xs (i + j) 0 * 2 ^ (8 * j) + num (slice xs i j)
num_more xs i j l = num-take_suc (drop i xs) j (simp length-drop (omega arith)) ∙ ap (λ (n : ℕ). n * 2 ^ (8 * j) + num (slice xs i j)) (get_or-drop i xs j 0)

num-eight : (xs : List ℕ) (i : ℕ) → i + 8 ≤ length xs
    → num (slice xs i 8) ≡ get_or xs i 0 + get_or xs (i + 1) 0 * 256 + get_or xs (i + 2) 0 * 65536 + get_or xs (i + 3) 0 * 16777216
    + (get_or xs (i + 4) 0 + get_or xs (i + 4 + 1) 0 * 256 + get_or xs (i + 4 + 2) 0 * 65536 + get_or xs (i + 4 + 3) 0 * 16777216) * 4294967296
unfolding num
num-eight xs i l =
    let more : (j : ℕ) → j < 8 → num (slice xs i (suc j)) ≡ get_or xs (i + j) 0 * 2 ^ (8 * j) + num (slice xs i j) = λ j m. num_more xs i j (omega arith) in
    let same : (m n : ℕ) → m ≡ n → get_or xs m 0 ≡ get_or xs n 0 = λ m n e. ap (λ (k : ℕ). get_or xs k 0) e in
    omega (
      arith,
      same (i + 0) i (omega arith),
      same (i + 4 + 1) (i + 5) (omega arith),
      same (i + 4 + 2) (i + 6) (omega arith),
      same (i + 4 + 3) (i + 7) (omega arith),
      more 0 (lit< tt),
      more 1 (lit< tt),
      more 2 (lit< tt),
      more 3 (lit< tt),
      more 4 (lit< tt),
      more 5 (lit< tt),
      more 6 (lit< tt),
      more 7 (lit< tt),
    )

-- the number of two halves has the bits of the eight bytes
pub bit-eight : (xs : List ℕ) → Bytes xs → (i r : ℕ) → i + 8 ≤ length xs
    → r ≡ get_or xs i 0 + get_or xs (i + 1) 0 * 256 + get_or xs (i + 2) 0 * 65536 + get_or xs (i + 3) 0 * 16777216
    + (get_or xs (i + 4) 0 + get_or xs (i + 4 + 1) 0 * 256 + get_or xs (i + 4 + 2) 0 * 65536 + get_or xs (i + 4 + 3) 0 * 16777216) * 4294967296
    → (t : ℕ) → t < 64 → bit r t ≡ bit_at xs (8 * i + t)
bit-eight xs h i r room e t l =
    ap (λ (x : ℕ). bit x t) (e ∙ sym (num-eight xs i room)) ∙ bit-num (slice xs i 8) (slice_bytes xs i 8 h) t ∙ bit_at-take (drop i xs) 8 t l ∙ bit_at-drop xs i t

-- ---- the bytes from byte i on

-- b below x: the low bits are b's, the others x's
below_low : (x b t : ℕ) → b < 2 ^ 8 → t < 8 → bit (x * 2 ^ 8 + b) t ≡ bit b t
below_low x b t h l = sym (bit_mod (x * 2 ^ 8 + b) 8 t l) ∙ ap (λ (y : ℕ). bit y t) (low x 8 h)

below_high : (x b t : ℕ) → b < 2 ^ 8 → bit (x * 2 ^ 8 + b) (8 + t) ≡ bit x t
below_high x b t h = sym (bit_shr (x * 2 ^ 8 + b) 8 t) ∙ ap (λ (y : ℕ). bit y t) (high x 8 h)

-- x is the number of the bytes from byte i on
pub record TailFrom (xs : List ℕ) (i x : ℕ) : Type 0 where
  pub fits : x < 2 ^ (8 * (length xs - i))
  pub bits : (t : ℕ) → bit x t ≡ bit_at xs (8 * i + t)

pub tail_none : (xs : List ℕ) → TailFrom xs (length xs) 0
tail_none xs = record { fits = pow_pos (8 * (length xs - length xs)); bits = λ t. bit_zero t ∙ sym (bit_at_past xs (8 * length xs + t) (omega arith)) }

-- less than eight bytes leave room for one more
pub tail_room : (xs : List ℕ) (i x : ℕ) → length xs < i + 8 → TailFrom xs i x → x < 2 ^ 56
tail_room xs i x l h = lt_of_lt_of_le h.fits (pow_mono {i = 8 * (length xs - i)} {j = 56} (omega arith))

-- one byte more
pub tail_more : (xs : List ℕ) (i x b : ℕ) → 1 ≤ i → i ≤ length xs → b ≡ get_or xs (i - 1) 0 → b < 256 → TailFrom xs i x → TailFrom xs (i - 1) (x * 256 + b)
tail_more xs i x b some l e small h = record {
  fits =
      let k = 8 * (length xs - i) in
      let next : 8 * (length xs - (i - 1)) ≡ k + 8 = omega arith in
      omega (arith, h.fits, small, ap (λ (n : ℕ). 2 ^ n) next ∙ pow-add 2 k 8);
  bits = λ t. elim (dec_lt t 8) [
    | yes m ↦ below_low x b t small m ∙ ap (λ (n : ℕ). bit n t) e ∙ sym (bit_at-at xs (i - 1) t m)
    | no m ↦
        let from : t ≡ 8 + (t - 8) = omega arith in
        ap (bit (x * 256 + b)) from ∙ below_high x b (t - 8) small ∙ h.bits (t - 8) ∙ ap (bit_at xs) (omega arith)
  ];
}

-- ---- a word shifted up, and what crosses into it

-- the s bits that come free are noughts: to put y there is to add it
pub or_crossing : (x s y : ℕ) → s ≤ 64 → y < 2 ^ s → bit_or (x * 2 ^ s % 2 ^ 64) y ≡ bit_xor (x * 2 ^ s % 2 ^ 64) y
or_crossing x s y l h =
    let k = 64 - s in
    let sum : k + s ≡ 64 = omega arith in
    let all : 2 ^ k * 2 ^ s ≡ 2 ^ 64 = sym (pow-add 2 k s) ∙ ap (λ (n : ℕ). 2 ^ n) sum in
    let fits : x % 2 ^ k * 2 ^ s < 2 ^ 64 = rw sum at (shl_lt k s (mod-lt x (pow_pos k))) in
    let apart : x * 2 ^ s ≡ x / 2 ^ k * 2 ^ 64 + x % 2 ^ k * 2 ^ s = omega (arith, ap (λ (n : ℕ). n * 2 ^ s) (split x k), ap (λ (n : ℕ). x / 2 ^ k * n) all) in
    let stays : x * 2 ^ s % 2 ^ 64 ≡ x % 2 ^ k * 2 ^ s = ap (λ (n : ℕ). n % 2 ^ 64) apart ∙ low (x / 2 ^ k) 64 fits in
    rw stays (or_shifted (x % 2 ^ k) s y h ∙ sym (xor_shifted (x % 2 ^ k) s y h))
