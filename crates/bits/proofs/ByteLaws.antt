-- Laws of bytes made from bits, and of lists one after another.
use mathlib.Core.Path.{◌≡◌, refl, sym, ap, ap₂, ◌∙◌}
use mathlib.Core.Logic.{⊎_elim}
use mathlib.Core.Bool.{Bool, true, false, cond}
use mathlib.Core.List.{List, [], ◌++◌, append-nil}
use Prim.Native.Nat.{ℕ, zero, suc, ◌+◌, ◌-◌, ◌*◌, ◌/◌, ◌%◌, ◌^◌, ◌≤◌, ◌<◌}
use native.Mathlib.Nat.{pow-suc}
use native.Mathlib.Omega.{arith}
use native.Mathlib.Decide.{ℕ_discrete}
use lib.Dec.{lit<}
use lib.ListN.{length, get_or, take, drop, length-drop, length-append}
use lib.Seq.{take_all, drop-append-le, take-append-le, drop_at, take-add}
use Rattle.bits.specs.Sums.{pick, sum}
use Rattle.bits.specs.Bits.{bit, bit_at, Bytes, slice, from_bits, bytes_of, joined}
use Rattle.bits.proofs.SumLaws.{sum_grows}
use Rattle.bits.proofs.BitLaws.{lt_or_ge, bit_low, bit_half}

pub from_lt : (n : ℕ) (f : ℕ → ℕ) → ((j : ℕ) → f j < 2) → from_bits n f < 2 ^ n
unfolding from_bits
from_lt zero f h = lit< tt
from_lt (suc n) f h = omega (arith, from_lt n (λ j. f (suc j)) (λ j. h (suc j)), h 0, pow-suc 2 n)

pub from_bit : (n : ℕ) (f : ℕ → ℕ) → ((j : ℕ) → f j < 2) → (j : ℕ) → j < n → bit (from_bits n f) j ≡ f j
unfolding from_bits
from_bit zero f h j l = absurd (omega arith)
from_bit (suc n) f h zero l = bit_low (from_bits (suc n) f) ∙ omega (arith, h 0)
from_bit (suc n) f h (suc j) l =
    let e₀ : from_bits (suc n) f / 2 ≡ from_bits n (λ i. f (suc i)) = omega (arith, h 0) in
    sym (bit_half (from_bits (suc n) f) j) ∙ ap (λ x. bit x j) e₀ ∙ from_bit n (λ i. f (suc i)) (λ i. h (suc i)) j (omega arith)

pub bytes_of-length : (n : ℕ) (f : ℕ → ℕ) → length (bytes_of n f) ≡ n
unfolding bytes_of
bytes_of-length zero f = refl
bytes_of-length (suc n) f = ap suc (bytes_of-length n (λ q. f (8 + q)))

pub bytes_of_bytes : (n : ℕ) (f : ℕ → ℕ) → ((j : ℕ) → f j < 2) → Bytes (bytes_of n f)
unfolding bytes_of
bytes_of_bytes zero f h i = lit< tt
bytes_of_bytes (suc n) f h zero = from_lt 8 f h
bytes_of_bytes (suc n) f h (suc i) = bytes_of_bytes n (λ q. f (8 + q)) (λ q. h (8 + q)) i

pub bytes_of-bit : (n : ℕ) (f : ℕ → ℕ) → ((j : ℕ) → f j < 2) → (q : ℕ) → q < 8 * n → bit_at (bytes_of n f) q ≡ f q
unfolding bytes_of bit_at
bytes_of-bit zero f h q l = absurd (omega arith)
bytes_of-bit (suc n) f h q l = ⊎_elim here (there (bytes_of-bit n (λ x. f (8 + x)) (λ x. h (8 + x)))) (lt_or_ge q 8)
  where
    here : q < 8 → bit_at (bytes_of (suc n) f) q ≡ f q
    here lq =
        let e₀ : q / 8 ≡ 0 = omega arith in
        let e₁ : q % 8 ≡ q = omega arith in
        ap₂ (λ i j. bit (get_or (bytes_of (suc n) f) i 0) j) e₀ e₁ ∙ from_bit 8 f h q lq

    there : ((x : ℕ) → x < 8 * n → bit_at (bytes_of n (λ x. f (8 + x))) x ≡ f (8 + x)) → 8 ≤ q → bit_at (bytes_of (suc n) f) q ≡ f q
    there ih lq =
        let x = q - 8 in
        let e₀ : q / 8 ≡ suc (x / 8) = omega arith in
        let e₁ : q % 8 ≡ x % 8 = omega arith in
        let e₂ : 8 + x ≡ q = omega arith in
        ap₂ (λ i j. bit (get_or (bytes_of (suc n) f) i 0) j) e₀ e₁ ∙ ih x (omega arith) ∙ ap f e₂

-- ---- lists one after another

-- where the i-th list starts, if list j has len j elements
abbrev pub place : (ℕ → Bool) → (ℕ → ℕ) → ℕ → ℕ
place on len i = sum i (λ j. cond (on j) (len j) 0)

pub place_on : (on : ℕ → Bool) (len : ℕ → ℕ) (i : ℕ) → on i ≡ true → place on len (suc i) ≡ place on len i + len i
unfolding sum
place_on on len i e = rw e

module _ (on : ℕ → Bool) (f : ℕ → List ℕ) (len : ℕ → ℕ) (sized : (i : ℕ) → length (f i) ≡ len i) where
  picked : (v : Bool) (i : ℕ) → length (pick v (f i) []) ≡ cond v (len i) 0
  picked true i = sized i
  picked false i = refl

  pub joined_length : (i : ℕ) → length (joined on f i) ≡ place on len i
  unfolding joined sum
  joined_length zero = refl
  joined_length (suc i) = length-append (joined on f i) (pick (on i) (f i) []) ∙ ap₂ ◌+◌ (joined_length i) (picked (on i) i)

  -- a list is cut out again
  pub part-joined : (n i : ℕ) → i < n → on i ≡ true → slice (joined on f n) (place on len i) (len i) ≡ f i
  unfolding joined
  part-joined zero i l e = absurd (omega arith)
  part-joined (suc n) i l e = elim (ℕ_discrete i n) [
    | yes q ↦ rw (← q, e) (rw (drop_at (joined on f i) (f i) (place on len i) (joined_length i)) (take_all (len i) (f i) (omega (arith, sized i))))
    | no ne ↦
        let g : place on len (suc i) ≤ place on len n = sum_grows (λ j. cond (on j) (len j) 0) (suc i) n (omega arith) in
        let last = pick (on n) (f n) [] in
        let ends : place on len i + len i ≤ length (joined on f n) = omega (arith, joined_length n, place_on on len i e) in
        rw (drop-append-le (place on len i) (joined on f n) last (omega arith))
        (rw (take-append-le (len i) (drop (place on len i) (joined on f n)) last (simp length-drop (omega arith))) (part-joined n i (omega arith) e))
  ]

  -- a list with the right parts
  joined-front : (ys : List ℕ) (n : ℕ) → ((i : ℕ) → i < n → on i ≡ true → slice ys (place on len i) (len i) ≡ f i) → take (place on len n) ys ≡ joined on f n
  unfolding joined sum
  joined-front ys zero h = refl
  joined-front ys (suc n) h = go (on n) refl (joined-front ys n (λ i l. h i (omega arith)))
    where
      go : (v : Bool) → on n ≡ v → take (place on len n) ys ≡ joined on f n → take (place on len (suc n)) ys ≡ joined on f (suc n)
      go true e ih = rw e (take-add (place on len n) (len n) ys ∙ ap₂ ◌++◌ ih (h n (omega arith) e))
      go false e ih = rw e (ap (λ x. take x ys) same ∙ ih ∙ sym (append-nil (joined on f n)))
        where
          same : place on len n + 0 ≡ place on len n
          same = omega arith

  pub joined_parts : (ys : List ℕ) (n : ℕ) → length ys ≡ place on len n → ((i : ℕ) → i < n → on i ≡ true → slice ys (place on len i) (len i) ≡ f i) → ys ≡ joined on f n
  joined_parts ys n l h = sym (take_all (place on len n) ys (omega arith)) ∙ joined-front ys n h
