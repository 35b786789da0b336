-- Laws of numerals: a digit more, how many, all digits, no leading zero, one number only.
use mathlib.Core.Path.{◌≡◌, refl, sym, ap, ap₂, ◌∙◌}
use mathlib.Core.List.{List, [], ◌∷◌, ◌++◌, append-nil}
use Prim.Native.Nat.{ℕ, zero, suc, ◌+◌, ◌-◌, ◌*◌, ◌/◌, ◌%◌, ◌^◌, ◌≤◌, ◌<◌}
use native.Mathlib.Omega.{arith}
use native.Mathlib.Nat.{pow-suc}
use native.Mathlib.Decide.{dec_lt}
use lib.ListN.{length, length-append}
use borrow.Author.Tests.{lt-ltb, le-ltb}
use Rattle.text.specs.Numerals.{digit, written, numeral}

written_low : (f n : ℕ) → n < 10 → written f n ≡ digit n ∷ []
unfolding written
written_low zero n l = refl
written_low (suc f) n l = rw (lt-ltb n 10 l)

written_high : (f n : ℕ) → 10 ≤ n → written (suc f) n ≡ written f (n / 10) ++ digit (n % 10) ∷ []
unfolding written
written_high f n l = rw (le-ltb n 10 l)

-- digits to spare change nothing
written_same : (f g n : ℕ) → n ≤ f → n ≤ g → written f n ≡ written g n
written_same zero g n p q = written_low zero n (omega arith) ∙ sym (written_low g n (omega arith))
written_same (suc f) zero n p q = written_low (suc f) n (omega arith) ∙ sym (written_low zero n (omega arith))
written_same (suc f) (suc g) n p q = elim (dec_lt n 10) [
  | yes l ↦ written_low (suc f) n l ∙ sym (written_low (suc g) n l)
  | no l ↦ written_high f n (omega arith) ∙ ap (λ t. t ++ digit (n % 10) ∷ []) (written_same f g (n / 10) (omega arith) (omega arith)) ∙ sym (written_high g n (omega arith))
]

pub numeral-digit : (n : ℕ) → n < 10 → numeral n ≡ digit n ∷ []
unfolding numeral
numeral-digit n l = written_low n n l

pub numeral_step : (n : ℕ) → 10 ≤ n → numeral n ≡ numeral (n / 10) ++ digit (n % 10) ∷ []
unfolding numeral
numeral_step zero l = absurd (omega arith)
numeral_step (suc f) l = written_high f (suc f) l ∙ ap (λ t. t ++ digit (suc f % 10) ∷ []) (written_same f (suc f / 10) (suc f / 10) (omega arith) (omega arith))

-- one digit more
pub numeral_more : (n d : ℕ) → 0 < n → d < 10 → numeral (10 * n + d) ≡ numeral n ++ digit d ∷ []
numeral_more n d p l =
    let q : (10 * n + d) / 10 ≡ n = omega arith in
    let r : (10 * n + d) % 10 ≡ d = omega arith in
    numeral_step (10 * n + d) (omega arith) ∙ ap₂ (λ a b. numeral a ++ digit b ∷ []) q r

-- a number has at most as many digits as the power of ten that it is below
pub numeral_short : (d n : ℕ) → 0 < d → n < 10 ^ d → length (numeral n) ≤ d
numeral_short zero n p l = absurd (omega arith)
numeral_short (suc zero) n p l =
    let h : n < 10 = omega arith in
    rw (numeral-digit n h) (omega arith)
numeral_short (suc (suc d)) n p l = elim (dec_lt n 10) [
  | yes h ↦ rw (numeral-digit n h) (omega arith)
  | no h ↦ (
      let step = numeral_step n (omega arith) in
      let short = numeral_short (suc d) (n / 10) (omega arith) (omega (arith, pow-suc 10 (suc d))) in
      omega (arith, ap length step, length-append (numeral (n / 10)) (digit (n % 10) ∷ [])))
]

-- what holds of the digits, and of a number when it holds of the number without its last digit, holds of every number
pub by_digits : (P : ℕ → Type 0) → ((n : ℕ) → n < 10 → P n) → ((n : ℕ) → 10 ≤ n → P (n / 10) → P n) → (n : ℕ) → P n
by_digits P low high n = go n n (omega arith)
  where
    go : (f n : ℕ) → n ≤ f → P n
    go zero n p = low n (omega arith)
    go (suc f) n p = elim (dec_lt n 10) [
      | yes l ↦ low n l
      | no l ↦ high n (omega arith) (go f (n / 10) (omega arith))
    ]

abbrev pub Digit : ℕ → Type 0
Digit x = (48 ≤ x) × (x ≤ 57)

abbrev pub Digits : List ℕ → Type 0
Digits [] = Unit
Digits (x ∷ xs) = Digit x × Digits xs

digits_append : (xs ys : List ℕ) → Digits xs → Digits ys → Digits (xs ++ ys)
digits_append [] ys p q = q
digits_append (x ∷ xs) ys p q = (p.0, digits_append xs ys p.1 q)

pub numeral_digits : (n : ℕ) → Digits (numeral n)
numeral_digits = by_digits (λ n. Digits (numeral n))
    (λ n l. rw (numeral-digit n l) ((omega arith, omega arith), tt))
    (λ n l h. rw (numeral_step n l) (digits_append (numeral (n / 10)) _ h ((omega arith, omega arith), tt)))

-- the number that digits tell, after the number a
abbrev value_after : ℕ → List ℕ → ℕ
value_after a [] = a
value_after a (x ∷ xs) = value_after (10 * a + (x - 48)) xs

value-append : (a : ℕ) (xs ys : List ℕ) → value_after a (xs ++ ys) ≡ value_after (value_after a xs) ys
value-append a [] ys = refl
value-append a (x ∷ xs) ys = value-append (10 * a + (x - 48)) xs ys

value_grows : (a : ℕ) (xs : List ℕ) → a ≤ value_after a xs
value_grows a [] = omega arith
value_grows a (x ∷ xs) = omega (arith, value_grows (10 * a + (x - 48)) xs)

value-numeral : (n : ℕ) → value_after 0 (numeral n) ≡ n
value-numeral = by_digits (λ n. value_after 0 (numeral n) ≡ n)
    (λ n l. rw (numeral-digit n l) (omega arith))
    (λ n l h. rw (numeral_step n l, value-append, h) (omega arith))

pub numeral_one : (n n' : ℕ) → numeral n ≡ numeral n' → n ≡ n'
numeral_one n n' e = sym (value-numeral n) ∙ ap (value_after 0) e ∙ value-numeral n'

-- more digits after a numeral are a number ten times as large, or more
pub longer_is_larger : (n n' x : ℕ) (xs : List ℕ) → numeral n' ≡ numeral n ++ x ∷ xs → 10 * n ≤ n'
longer_is_larger n n' x xs e =
    let v : n' ≡ value_after (10 * n + (x - 48)) xs = sym (value-numeral n') ∙ ap (value_after 0) e ∙ value-append 0 (numeral n) (x ∷ xs) ∙ ap (λ a. value_after a (x ∷ xs)) (value-numeral n) in
    omega (arith, value_grows (10 * n + (x - 48)) xs)

pub numeral_some : (n : ℕ) → numeral n ≡ [] → ⊥
numeral_some = by_digits (λ n. numeral n ≡ [] → ⊥)
    (λ n l e. none (sym (numeral-digit n l) ∙ e))
    (λ n l h e. snoc (numeral (n / 10)) (digit (n % 10)) (sym (numeral_step n l) ∙ e))
  where
    none : {x : ℕ} → x ∷ [] ≡ [] → ⊥
    none e = let z : ◌≡◌ {A = ℕ} 0 1 = cc in omega arith

    snoc : (xs : List ℕ) (x : ℕ) → xs ++ x ∷ [] ≡ [] → ⊥
    snoc [] x e = let z : ◌≡◌ {A = ℕ} 0 1 = cc in omega arith
    snoc (y ∷ xs) x e = let z : ◌≡◌ {A = ℕ} 0 1 = cc in omega arith

-- a numeral that begins with 0 is 0
pub no_leading_zero : (n : ℕ) (xs : List ℕ) → numeral n ≡ digit 0 ∷ xs → n ≡ 0
no_leading_zero = by_digits (λ n. (xs : List ℕ) → numeral n ≡ digit 0 ∷ xs → n ≡ 0)
    (λ n l xs e. let h : digit n ≡ digit 0 = head (sym (numeral-digit n l) ∙ e) in omega arith)
    (λ n l h xs e. absurd (go n l h (numeral (n / 10)) refl xs (sym (numeral_step n l) ∙ e)))
  where
    head : {x y : ℕ} {xs ys : List ℕ} → x ∷ xs ≡ y ∷ ys → x ≡ y
    head e = cc

    go : (n : ℕ) → 10 ≤ n → ((xs : List ℕ) → numeral (n / 10) ≡ digit 0 ∷ xs → n / 10 ≡ 0) → (t : List ℕ) → numeral (n / 10) ≡ t → (xs : List ℕ) → t ++ digit (n % 10) ∷ [] ≡ digit 0 ∷ xs → ⊥
    go n l h [] q xs e = numeral_some (n / 10) q
    go n l h (y ∷ t) q xs e = let z = h t (q ∙ ap (λ x. x ∷ t) (head e)) in omega arith

-- where a text is digits up to a stop, any digits at its front are the first of those
pub digits_first : (xs ys rest r : List ℕ) (stop : ℕ) → Digits xs → Digits ys → (Digit stop → ⊥) → xs ++ stop ∷ rest ≡ ys ++ r → (zs : List ℕ) × Digits zs × (xs ≡ ys ++ zs) × (r ≡ zs ++ stop ∷ rest)
digits_first xs [] rest r stop p q s e = (xs, p, refl, sym e)
digits_first [] (y ∷ ys) rest r stop p q s e = let h : y ≡ stop = cc in absurd (s (rw (← h) q.0))
digits_first (x ∷ xs) (y ∷ ys) rest r stop p q s e =
    let h : x ≡ y = cc in
    let t : xs ++ stop ∷ rest ≡ ys ++ r = cc in
    let w = digits_first xs ys rest r stop p.1 q.1 s t in
    (w.0, w.1, ap₂ (λ a l. a ∷ l) h w.2, w.3)

-- a numeral and a stop after it are one number and one rest
pub one_token : (n n' stop : ℕ) (rest rest' : List ℕ) → (Digit stop → ⊥) → numeral n ++ stop ∷ rest ≡ numeral n' ++ stop ∷ rest' → (n ≡ n') × (rest ≡ rest')
one_token n n' stop rest rest' s e =
    let w = digits_first (numeral n) (numeral n') rest (stop ∷ rest') stop (numeral_digits n) (numeral_digits n') s e in
    go w.0 w.1 w.2 w.3
  where
    go : (zs : List ℕ) → Digits zs → numeral n ≡ numeral n' ++ zs → stop ∷ rest' ≡ zs ++ stop ∷ rest → (n ≡ n') × (rest ≡ rest')
    go [] d f g = (numeral_one n n' (f ∙ append-nil (numeral n')), cc)
    go (z ∷ zs) d f g = let h : stop ≡ z = cc in absurd (s (rw h d.0))
