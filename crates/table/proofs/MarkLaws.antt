-- The ones of a number are its marks, counted. Assumes nothing.
use mathlib.Core.Path.{◌≡◌, refl, sym, ap, ap₂, ◌∙◌, fun_ext}
use mathlib.Core.Bool.{Bool, cond, true, false, not, true≢false}
use Prim.Native.Nat.{ℕ, zero, suc, ◌+◌, ◌-◌, ◌/◌, ◌%◌, ◌^◌, ◌<◌, ◌≤◌}
use native.Mathlib.Omega.{arith}
use native.Mathlib.Nat.{pow-succ', div-div-eq-div-mul, div-one, div-lt_iff_lt-mul, div-eq_of_lt, lt_of_lt_of_le, mod-lt}
use native.Mathlib.Decide.{ℕ_discrete}
use borrow.Author.Tests.{eq-eqb, ne_eqb}
use lib.Pow.{pow_pos, pow_mono, shr-shr}
use lib.Dec.{eqb}
use lib.Count.{ones, ones_step, ones-le, count_trailing_zeros, under}
use Rattle.bits.specs.Sums.{sum, count}
use Rattle.bits.specs.Bits.{bit}
use Rattle.bits.proofs.SumLaws.{sum_same}
use Rattle.bits.proofs.BitLaws.{bit_mod}
use Rattle.table.specs.Desk.{mark}
use Rattle.table.specs.Checks.{MarkAbove}
use Rattle.table.specs.Table.{NextMark}

sum-front : (k : ℕ) (f : ℕ → ℕ) → sum (suc k) f ≡ f 0 + sum k (λ i. f (suc i))
unfolding sum
sum-front zero f = omega arith
sum-front (suc k) f = omega (arith, sum-front k f)

digit : (x : ℕ) → x < 2 → cond (eqb x 1) 1 0 ≡ x
digit zero l = refl
digit (suc zero) l = refl
digit (suc (suc x)) l = absurd (omega arith)

lowest-mark : (x : ℕ) → cond (mark x 0) 1 0 ≡ x % 2
lowest-mark x = rw div-one (digit (x % 2) (omega arith))

pub half_mark : (x i : ℕ) → mark x (suc i) ≡ mark (x / 2) i
half_mark x i = rw (pow-succ', ← (div-div-eq-div-mul x 2 (2 ^ i)))

pub ones_are_marks : (w x : ℕ) → x < 2 ^ w → ones x ≡ count w (mark x)
unfolding sum
ones_are_marks zero x l = omega (arith, ones-le 0 x l)
ones_are_marks (suc w) x l =
    ones_step x
    ∙ ap (λ y. x % 2 + y) (ones_are_marks w (x / 2) (omega (arith, pow-succ' 2 w)))
    ∙ sym (sum-front w (λ i. cond (mark x i) 1 0) ∙ ap₂ ◌+◌ (lowest-mark x) (ap (sum w) (fun_ext λ i. ap (λ v. cond v 1 0) (half_mark x i))))

pub below : (n x : ℕ) → x / 2 ^ n ≡ 0 → x < 2 ^ n
below n x e =
    let h : x / 2 ^ n < 1 = omega arith in
    omega (arith, (div-lt_iff_lt-mul (pow_pos n)).0 h)

-- some mark of a number that is not 0 is set
some_mark : (w x : ℕ) → x ≤ w → 0 < x → (i : ℕ) × (mark x i ≡ true)
some_mark zero x l p = absurd (omega arith)
some_mark (suc w) x l p = elim (ℕ_discrete (x % 2) 1) [
  | yes e ↦ (0, rw div-one (eq-eqb (x % 2) 1 e))
  | no ne ↦ let r = some_mark w (x / 2) (omega arith) (omega arith) in (suc r.0, half_mark x r.0 ∙ r.1)
]

-- what is left above n marks is not 0 exactly where one of them is set
pub mark_above : (n x : ℕ) → (x / 2 ^ n ≡ 0 → ⊥) → MarkAbove n x
mark_above n x h =
    let r = some_mark (x / 2 ^ n) (x / 2 ^ n) (omega arith) (omega arith) in
    (n + r.0, omega arith, rw (← (shr-shr x n r.0)) r.1)

pub no_mark_above : (n x : ℕ) → x / 2 ^ n ≡ 0 → (i : ℕ) → n ≤ i → mark x i ≡ true → ⊥
no_mark_above n x e i l h =
    let z : x / 2 ^ i ≡ 0 = div-eq_of_lt (lt_of_lt_of_le (below n x e) (pow_mono l)) in
    true≢false (sym (rw z at h))

-- the first mark is the last digit
first-mark : (x : ℕ) → x % 2 ≡ 1 → mark x 0 ≡ true
first-mark x e = rw div-one (eq-eqb (x % 2) 1 e)

no_first_mark : (x : ℕ) → x % 2 ≡ 0 → mark x 0 ≡ false
no_first_mark x e = rw div-one (ne_eqb (x % 2) 1 (λ h. omega arith))

-- no mark is set above n: nothing is left there
pub none_left : (n x : ℕ) → ((i : ℕ) → n ≤ i → mark x i ≡ true → ⊥) → x / 2 ^ n ≡ 0
none_left n x h = elim (ℕ_discrete (x / 2 ^ n) 0) [
  | yes e ↦ e
  | no ne ↦ let r = mark_above n x ne in absurd (h r.0 r.1 r.2)
]

-- the marks from k on
pub mark_from : (marks k i : ℕ) → mark (marks / 2 ^ k) i ≡ mark marks (k + i)
mark_from marks k i = ap (λ (x : ℕ). eqb (x % 2) 1) (shr-shr marks k i)

-- no mark is set where none is left
pub unmarked : (marks next i : ℕ) → marks / 2 ^ next ≡ 0 → next ≤ i → mark marks i ≡ false
unmarked marks next i z l = go (mark marks i) refl
  where
    go : (v : Bool) → mark marks i ≡ v → v ≡ false
    go false e = refl
    go true e = absurd (no_mark_above next marks z i l e)

-- the zeros that a number ends in are marks that are not set, and where they end one is
digit_clear : (x d : ℕ) → x % 2 ≡ d → (t : ℕ) → ((i : ℕ) → i < t → mark (x / 2) i ≡ false) → (i : ℕ) → i < under d t → mark x i ≡ false
digit_clear x zero e t h zero l = no_first_mark x e
digit_clear x zero e t h (suc i) l = half_mark x i ∙ h i (omega arith)
digit_clear x (suc d) e t h i l = absurd (omega arith)

ends_in_zeros : (w x i : ℕ) → i < count_trailing_zeros w x → mark x i ≡ false
unfolding count_trailing_zeros
ends_in_zeros zero x i l = absurd (omega arith)
ends_in_zeros (suc w) x i l = digit_clear x (x % 2) refl (count_trailing_zeros w (x / 2)) (ends_in_zeros w (x / 2)) i l

digit_set : (w x d : ℕ) → x % 2 ≡ d → (t : ℕ) → (t < w → mark (x / 2) t ≡ true) → under d t < suc w → mark x (under d t) ≡ true
digit_set w x zero e t h l = half_mark x t ∙ h (omega arith)
digit_set w x (suc d) e t h l = first-mark x (omega arith)

ends_at_one : (w x : ℕ) → count_trailing_zeros w x < w → mark x (count_trailing_zeros w x) ≡ true
unfolding count_trailing_zeros
ends_at_one zero x l = absurd (omega arith)
ends_at_one (suc w) x l = digit_set w x (x % 2) refl (count_trailing_zeros w (x / 2)) (ends_at_one w (x / 2)) l

-- n and y share no digit of w, and have them all: where n ends in zeros y ends in ones
digit_shared : (w n y : ℕ) → n + y + 1 ≡ 2 ^ suc w → (d : ℕ) → n % 2 ≡ d → (t : ℕ) → ((i : ℕ) → i < t → mark (y / 2) i ≡ true) → (i : ℕ) → i < under d t → mark y i ≡ true
digit_shared w n y e zero z t h zero l = first-mark y (omega (arith, pow-succ' 2 w))
digit_shared w n y e zero z t h (suc i) l = half_mark y i ∙ h i (omega arith)
digit_shared w n y e (suc d) z t h i l = absurd (omega arith)

ends_in_ones : (w n y : ℕ) → n + y + 1 ≡ 2 ^ w → (i : ℕ) → i < count_trailing_zeros w n → mark y i ≡ true
unfolding count_trailing_zeros
ends_in_ones zero n y e i l = absurd (omega arith)
ends_in_ones (suc w) n y e i l =
    digit_shared w n y e (n % 2) refl (count_trailing_zeros w (n / 2)) (ends_in_ones w (n / 2) (y / 2) (omega (arith, pow-succ' 2 w))) i l

-- and where those zeros end, if they do, y has a zero
digit_ends : (w n y : ℕ) → n + y + 1 ≡ 2 ^ suc w → (d : ℕ) → n % 2 ≡ d → (t : ℕ) → (t < w → mark (y / 2) t ≡ false) → under d t < suc w → mark y (under d t) ≡ false
digit_ends w n y e zero z t h l = half_mark y t ∙ h (omega arith)
digit_ends w n y e (suc d) z t h l = no_first_mark y (omega (arith, pow-succ' 2 w))

ends_at_zero : (w n y : ℕ) → n + y + 1 ≡ 2 ^ w → count_trailing_zeros w n < w → mark y (count_trailing_zeros w n) ≡ false
unfolding count_trailing_zeros
ends_at_zero zero n y e l = absurd (omega arith)
ends_at_zero (suc w) n y e l = digit_ends w n y e (n % 2) refl (count_trailing_zeros w (n / 2)) (ends_at_zero w (n / 2) (y / 2) (omega (arith, pow-succ' 2 w))) l

-- so a mark is set in one of them only
pub shared_mark : (w n y : ℕ) → n + y + 1 ≡ 2 ^ w → (i : ℕ) → i < w → mark n i ≡ not (mark y i)
shared_mark zero n y e i l = absurd (omega arith)
shared_mark (suc w) n y e zero l = rw (div-one, div-one) (other (y % 2) (n % 2) (omega (arith, pow-succ' 2 w)) (omega arith))
  where
    other : (a b : ℕ) → a + b ≡ 1 → a < 2 → eqb b 1 ≡ not (eqb a 1)
    other a b s l = elim (ℕ_discrete a 1) [
      | yes e ↦ rw (eq-eqb a 1 e, ne_eqb b 1 (λ f. omega arith))
      | no ne ↦ rw (ne_eqb a 1 ne, eq-eqb b 1 (omega arith))
    ]
shared_mark (suc w) n y e (suc i) l =
    half_mark n i ∙ shared_mark w (n / 2) (y / 2) (omega (arith, pow-succ' 2 w)) i (omega arith) ∙ sym (ap not (half_mark y i))

-- the next mark, from packet i on: t marks are passed, and the one after them is found
module _ (v : Bool) (marks i t : ℕ) (passed : (j : ℕ) → j < t → mark (marks / 2 ^ i) j ≡ not v) where
  passes : (c : ℕ) → i ≤ c → c < i + t → mark marks c ≡ not v
  passes c l h =
      let e : i + (c - i) ≡ c = omega arith in
      ap (mark marks) (sym e) ∙ sym (mark_from marks i (c - i)) ∙ passed (c - i) (omega arith)

  next_here : (n : ℕ) → i + t < n → mark (marks / 2 ^ i) t ≡ v → NextMark v marks i n (i + t)
  next_here n l e = record { from = omega arith; most = omega arith; passed = passes; found = λ _. sym (mark_from marks i t) ∙ e }

  next_none : (n : ℕ) → i ≤ n → n ≤ i + t → NextMark v marks i n n
  next_none n l h = record { from = l; most = omega arith; passed = λ c a b. passes c a (omega arith); found = λ b. absurd (omega arith) }

module _ (marks i n : ℕ) (low : i + count_trailing_zeros 64 (marks / 2 ^ i) < n) (few : n ≤ 64) where
  pub present_here : NextMark true marks i n (i + count_trailing_zeros 64 (marks / 2 ^ i))
  present_here = next_here true marks i (count_trailing_zeros 64 (marks / 2 ^ i)) (ends_in_zeros 64 (marks / 2 ^ i)) n low (ends_at_one 64 (marks / 2 ^ i) (omega arith))

pub present_none : (marks i n : ℕ) → i ≤ n → n ≤ i + count_trailing_zeros 64 (marks / 2 ^ i) → NextMark true marks i n n
present_none marks i n l h = next_none true marks i (count_trailing_zeros 64 (marks / 2 ^ i)) (ends_in_zeros 64 (marks / 2 ^ i)) n l h

pub present_no_more : (marks i n : ℕ) → i ≤ n → marks / 2 ^ i ≡ 0 → NextMark true marks i n n
present_no_more marks i n l z = record { from = l; most = omega arith; passed = λ c a _. unmarked marks i c z a; found = λ b. absurd (omega arith) }

module _ (marks i rest : ℕ) (shared : rest + marks / 2 ^ i + 1 ≡ 2 ^ 64) (n : ℕ) where
  pub missing_here : i + count_trailing_zeros 64 rest < n → n ≤ 64 → NextMark false marks i n (i + count_trailing_zeros 64 rest)
  missing_here low few = next_here false marks i (count_trailing_zeros 64 rest) (ends_in_ones 64 rest (marks / 2 ^ i) shared) n low (ends_at_zero 64 rest (marks / 2 ^ i) shared (omega arith))

  pub missing_none : i ≤ n → n ≤ i + count_trailing_zeros 64 rest → NextMark false marks i n n
  missing_none l h = next_none false marks i (count_trailing_zeros 64 rest) (ends_in_ones 64 rest (marks / 2 ^ i) shared) n l h

-- what is left of the marks below 2 ^ i are those below i, and its ones count them
count_below : (marks i : ℕ) → count i (mark (marks % 2 ^ i)) ≡ count i (mark marks)
unfolding bit
count_below marks i = sum_same i _ _ (λ j l. ap (λ v. cond (eqb v 1) 1 0) (bit_mod marks i j l))

pub ones_below : (marks i : ℕ) → (ones (marks % 2 ^ i) ≡ count i (mark marks)) × (ones (marks % 2 ^ i) ≤ i)
ones_below marks i =
    let h = mod-lt marks (pow_pos i) in
    (ones_are_marks i (marks % 2 ^ i) h ∙ count_below marks i, ones-le i (marks % 2 ^ i) h)
