-- The marks of a choice: one for each number, none above, as many as the numbers.
use mathlib.Core.Path.{◌≡◌, refl, sym, ap, ◌∙◌}
use mathlib.Core.Bool.{true, false, cond, ◌||◌, true≢false}
use mathlib.Core.List.{List, [], ◌∷◌}
use Prim.Native.Nat.{ℕ, suc, ◌+◌, ◌-◌, ◌*◌, ◌%◌, ◌^◌, ◌≤◌, ◌<◌}
use native.Mathlib.Omega.{arith}
use native.Mathlib.Decide.{ℕ_discrete}
use lib.Bits.{bit_xor}
use lib.Dec.{eqb, lit<}
use lib.Pow.{shl_exact}
use lib.ListN.{length, take, drop, length-take, drop_of_length-le}
use lib.Seq.{drop-cons, get_or-take}
use borrow.Author.Tests.{eq-eqb, ne_eqb, eqb-false}
use Rattle.bits.specs.Sums.{at, one_at, count}
use Rattle.bits.specs.Bits.{bit}
use Rattle.bits.proofs.SumLaws.{one_at_same, one_at_other, sum_nought, sum_but}
use Rattle.bits.proofs.BitLaws.{bit_lt, bit-xor, bit_one, bit_zero}
use Rattle.table.specs.Desk.{mark}
use Rattle.choices.specs.Choices.{Rising}
use Rattle.choices.proofs.Orders.{rising_drop}
use Rattle.sheet.specs.Steps.{among, Marked}

marked_bit : (marks i : ℕ) → mark marks i ≡ eqb (bit marks i) 1
unfolding bit
marked_bit marks i = refl

-- a number at or below all that rise, and one above all, is not among them
not_among_low : (low n : ℕ) (xs : List ℕ) (y : ℕ) → Rising low n xs → y ≤ low → among xs y ≡ false
unfolding among
not_among_low low n [] y r l = refl
not_among_low low n (x ∷ xs) y r l = rw (ne_eqb x y (λ e. omega (arith, r.0))) (not_among_low x n xs y r.2 (omega (arith, r.0)))

pub among_high : (low n : ℕ) (xs : List ℕ) (y : ℕ) → Rising low n xs → among xs y ≡ true → y ≤ n
unfolding among
among_high low n [] y r e = absurd (true≢false (sym e))
among_high low n (x ∷ xs) y r e = elim (ℕ_discrete x y) [
  | yes q ↦ omega (arith, r.1)
  | no q ↦ among_high x n xs y r.2 (rw (ne_eqb x y q) at e)
]

pub marked_none : Marked [] 0
unfolding among
marked_none i = marked_bit 0 i ∙ ap (λ b. eqb b 1) (bit_zero i)

-- one mark more, below those that are set
pub marked_more : (n x marks : ℕ) (xs : List ℕ) → 0 < x → Rising x n xs → Marked xs marks → Marked (x ∷ xs) (bit_xor marks (1 * 2 ^ (x - 1)))
unfolding among
marked_more n x marks xs p r h i =
    let b : bit (bit_xor marks (1 * 2 ^ (x - 1))) i ≡ (bit marks i + one_at (x - 1) i) % 2 = bit-xor marks (1 * 2 ^ (x - 1)) i ∙ ap (λ y. (bit marks i + y) % 2) (bit_one (x - 1) i) in
    marked_bit (bit_xor marks (1 * 2 ^ (x - 1))) i ∙ elim (ℕ_discrete x (suc i)) [
      | yes e ↦ (
          let clear : bit marks i ≡ 0 = unset (sym (marked_bit marks i) ∙ h i ∙ not_among_low x n xs (suc i) r (omega arith)) in
          let one : one_at (x - 1) i ≡ 1 = one_at_same (x - 1) i (omega arith) in
          let set : bit (bit_xor marks (1 * 2 ^ (x - 1))) i ≡ 1 = b ∙ omega arith in
          rw (eq-eqb x (suc i) e) (eq-eqb _ 1 set))
      | no ne ↦ (
          let none : one_at (x - 1) i ≡ 0 = one_at_other (x - 1) i (λ e. ne (omega arith)) in
          let same : bit (bit_xor marks (1 * 2 ^ (x - 1))) i ≡ bit marks i = b ∙ omega (arith, bit_lt marks i) in
          rw (ne_eqb x (suc i) ne) (ap (λ y. eqb y 1) same ∙ sym (marked_bit marks i) ∙ h i))
    ]
  where
    unset : eqb (bit marks i) 1 ≡ false → bit marks i ≡ 0
    unset e = omega (arith, bit_lt marks i, eqb-false (bit marks i) 1 e)

-- as many numbers below n are among those that rise as these are
pub count-among : (n low : ℕ) (xs : List ℕ) → Rising low n xs → count n (λ i. among xs (suc i)) ≡ length xs
unfolding among
count-among n low [] r = sum_nought n _ (λ c l. refl)
count-among n low (x ∷ xs) r =
    let e : suc (x - 1) ≡ x = omega (arith, r.0) in
    let w = sum_but n (x - 1) (λ i. cond (among (x ∷ xs) (suc i)) 1 0) (λ i. cond (among xs (suc i)) 1 0) (omega (arith, r.0, r.1))
    (λ c l ne. ap (λ v. cond (v || among xs (suc c)) 1 0) (ne_eqb x (suc c) (λ q. ne (omega arith)))) in
    let one : ◌≡◌ {A = ℕ} (cond (among (x ∷ xs) (suc (x - 1))) 1 0) 1 = ap (λ v. cond (v || among xs (suc (x - 1))) 1 0) (eq-eqb x (suc (x - 1)) (sym e)) in
    let none : ◌≡◌ {A = ℕ} (cond (among xs (suc (x - 1))) 1 0) 0 = ap (λ v. cond v 1 0) (not_among_low x n xs (suc (x - 1)) r.2 (omega arith)) in
    omega (arith, w, one, none, count-among n x xs r.2)

pub marked_start : (k : ℕ) (xs : List ℕ) → k ≤ length xs → Marked (drop k (take k xs)) 0
marked_start k xs l =
    let h : length (take k xs) ≤ k = simp length-take (omega arith) in
    rw (drop_of_length-le (take k xs) h) marked_none

-- the mark of the number before those that are marked
pub marked_before : (n k : ℕ) (xs : List ℕ) (j marks width : ℕ) → k ≤ length xs → j < k → 0 < at xs j → at xs j ≤ width → Rising 0 n (take k xs)
    → Marked (drop (suc j) (take k xs)) marks → Marked (drop j (take k xs)) (bit_xor marks (1 * 2 ^ (at xs j - 1) % 2 ^ width))
marked_before n k xs j marks width l lj low high r h =
    let lt : length (take k xs) ≡ k = simp length-take (omega arith) in
    let e = get_or-take k xs j 0 lj in
    let c = drop-cons (take k xs) j 0 (omega arith) in
    let q : 1 * 2 ^ (at xs j - 1) % 2 ^ width ≡ 1 * 2 ^ (at (take k xs) j - 1) = shl_exact 1 (at xs j - 1) width (lit< tt) (omega arith) ∙ ap (λ x. 1 * 2 ^ (x - 1)) (sym e) in
    rw (c, q) (marked_more n (at (take k xs) j) marks (drop (suc j) (take k xs)) (omega arith) (rising_drop n 0 (take k xs) (suc j) r (omega arith)) h)
