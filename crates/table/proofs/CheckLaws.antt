-- Laws of the list of checks: one number only, and one list after another. Assumes nothing.
use mathlib.Core.Path.{◌≡◌, refl, sym, ◌∙◌, subst}
use mathlib.Core.Logic.{◌⊎◌, inl, inr}
use mathlib.Core.List.{List, [], ◌∷◌, ◌++◌}
use Prim.Native.Nat.{ℕ, ◌+◌, ◌*◌, ◌≤◌, ◌<◌}
use native.Mathlib.Omega.{arith}
use native.Mathlib.Decide.{ℕ_discrete, dec_lt, dec_le}
use lib.ListN.{length}
use Rattle.bits.specs.Sums.{at, count}
use mathlib.Core.Bool.{Bool, true, ◌&&◌, and-eq-true_iff}
use lib.Dec.{ltb}
use borrow.Author.Tests.{ltb-true}
use Rattle.table.specs.Limits.{max_k, max_m, max_length, max_shift, max_family, max_stripes}
use Rattle.table.specs.Desk.{mark}
use Rattle.table.specs.Checks.{Checks, Checked, Flag, Outside, asked, marks_checks, size_checks, family_number_checks, length_checks, table_checks, stripes_checks}
use Rattle.table.specs.Checks.{number_checks, asked_checks, input_checks, output_checks}

-- two numbers that a list of checks gives are the same
pub checked_once : (cs : Checks) (n n' : ℕ) → Checked cs n → Checked cs n' → n ≡ n'
checked_once [] n n' x y = x ∙ sym y
checked_once (c ∷ cs) n n' (inl x) (inl y) = x.1 ∙ sym y.1
checked_once (c ∷ cs) n n' (inl x) (inr y) = absurd (y.0 x.0)
checked_once (c ∷ cs) n n' (inr x) (inl y) = absurd (x.0 y.0)
checked_once (c ∷ cs) n n' (inr x) (inr y) = checked_once cs n n' x.1 y.1

-- no check has the number 0
abbrev pub Numbered : Checks → Type 0
Numbered [] = Unit
Numbered (c ∷ cs) = (0 < c.0) × Numbered cs

-- which is computed
abbrev numbers_b : Checks → Bool
numbers_b [] = true
numbers_b (c ∷ cs) = ltb 0 c.0 && numbers_b cs

pub numbered_by : (cs : Checks) → numbers_b cs ≡ true → Numbered cs
numbered_by [] e = tt
numbered_by (c ∷ cs) e =
    let w = (and-eq-true_iff (ltb 0 c.0) (numbers_b cs)).0 e in
    (ltb-true 0 c.0 w.0, numbered_by cs w.1)

pub numbered_both : (cs ds : Checks) → Numbered cs → Numbered ds → Numbered (cs ++ ds)
numbered_both [] ds p q = q
numbered_both (c ∷ cs) ds p q = (p.0, numbered_both cs ds p.1 q)

-- the first list refuses
pub stops : (cs ds : Checks) (n : ℕ) → Checked cs n → (n ≡ 0 → ⊥) → Checked (cs ++ ds) n
stops [] ds n x h = absurd (h x)
stops (c ∷ cs) ds n (inl x) h = inl x
stops (c ∷ cs) ds n (inr x) h = inr (x.0, stops cs ds n x.1 h)

-- the first list does not refuse, and the second decides
pub goes : (cs ds : Checks) (n : ℕ) → Numbered cs → Checked cs 0 → Checked ds n → Checked (cs ++ ds) n
goes [] ds n p x y = y
goes (c ∷ cs) ds n p (inl x) y = absurd (omega arith)
goes (c ∷ cs) ds n p (inr x) y = inr (x.0, goes cs ds n p.1 x.1 y)

-- a number that is 0
pub zero_checked : (cs : Checks) (n : ℕ) → n ≡ 0 → Checked cs n → Checked cs 0
zero_checked cs n e x = subst (Checked cs) e x

-- neither of two lists refuses
pub passed : (cs ds : Checks) → Numbered cs → Checked (cs ++ ds) 0 → Checked cs 0 × Checked ds 0
passed [] ds p x = (refl, x)
passed (c ∷ cs) ds p (inl x) = absurd (omega arith)
passed (c ∷ cs) ds p (inr x) = let r = passed cs ds p.1 x.1 in (inr (x.0, r.0), r.1)

-- no check of the list refuses
abbrev pub Passes : Checks → Type 0
Passes [] = Unit
Passes (c ∷ cs) = (c.1 → ⊥) × Passes cs

pub zero_passes : (cs : Checks) → Numbered cs → Checked cs 0 → Passes cs
zero_passes [] p x = tt
zero_passes (c ∷ cs) p (inl x) = absurd (omega arith)
zero_passes (c ∷ cs) p (inr x) = (x.0, zero_passes cs p.1 x.1)

pub passes_zero : (cs : Checks) → Passes cs → Checked cs 0
passes_zero [] x = refl
passes_zero (c ∷ cs) x = inr (x.0, passes_zero cs x.1)

-- a list that gave 0, and the list after it decides
pub goes_on : (cs ds : Checks) (n m : ℕ) → Numbered cs → Checked cs n → n ≡ 0 → Checked ds m → Checked (cs ++ ds) m
goes_on cs ds n m p x z y = goes cs ds m p (zero_checked cs n z x) y

pub not_unequal : {a b : ℕ} → ((a ≡ b → ⊥) → ⊥) → a ≡ b
not_unequal {a} {b} h = elim (ℕ_discrete a b) [ yes e ↦ e | no n ↦ absurd (h n) ]

-- where the first list does not refuse, the second decides
pub rest_decides : (cs ds : Checks) (n : ℕ) → Numbered cs → Checked cs 0 → Checked (cs ++ ds) n → Checked ds n
rest_decides [] ds n p c x = x
rest_decides (d ∷ cs) ds n p (inl c) x = absurd (omega (arith, p.0, c.1))
rest_decides (d ∷ cs) ds n p (inr c) (inl x) = absurd (c.0 x.0)
rest_decides (d ∷ cs) ds n p (inr c) (inr x) = rest_decides cs ds n p.1 c.1 x.1

-- the first list refuses, or it does not, and the second decides
pub stops_or_goes : (cs ds : Checks) (n : ℕ) → Numbered cs → Checked (cs ++ ds) n → (Checked cs n × (n ≡ 0 → ⊥)) ⊎ (Checked cs 0 × Checked ds n)
stops_or_goes [] ds n p x = inr (refl, x)
stops_or_goes (c ∷ cs) ds n p (inl x) = inl (inl x, λ z. omega (arith, p.0, x.1))
stops_or_goes (c ∷ cs) ds n p (inr x) = elim (stops_or_goes cs ds n p.1 x.1) [
  | inl y ↦ inl (inr (x.0, y.0), y.1)
  | inr y ↦ inr (inr (x.0, y.0), y.1)
]

-- every number of the list is below x
abbrev pub Below : ℕ → Checks → Type 0
Below x [] = Unit
Below x (c ∷ cs) = (c.0 < x) × Below x cs

abbrev below_b : ℕ → Checks → Bool
below_b x [] = true
below_b x (c ∷ cs) = ltb c.0 x && below_b x cs

pub below_by : (x : ℕ) (cs : Checks) → below_b x cs ≡ true → Below x cs
below_by x [] e = tt
below_by x (c ∷ cs) e =
    let w = (and-eq-true_iff (ltb c.0 x) (below_b x cs)).0 e in
    (ltb-true c.0 x w.0, below_by x cs w.1)

pub checked_below : (x : ℕ) (cs : Checks) (n : ℕ) → 0 < x → Below x cs → Checked cs n → n < x
checked_below x [] n l b c = omega arith
checked_below x (d ∷ cs) n l b (inl c) = omega (arith, b.0, c.1)
checked_below x (d ∷ cs) n l b (inr c) = checked_below x cs n l b.1 c.1

-- a number from x on comes from a later list, and the first does not refuse
pub from_later : (x : ℕ) (cs ds : Checks) (n : ℕ) → x ≤ n → Below x cs → Checked (cs ++ ds) n → Checked cs 0 × Checked ds n
from_later x [] ds n l b c = (refl, c)
from_later x (d ∷ cs) ds n l b (inl c) = absurd (omega (arith, b.0, c.1))
from_later x (d ∷ cs) ds n l b (inr c) = let r = from_later x cs ds n l b.1 c.1 in (inr (c.0, r.0), r.1)

pub neither : {P Q : Type 0} → (P → ⊥) → (Q → ⊥) → P ⊎ Q → ⊥
neither f g (inl x) = f x
neither f g (inr x) = g x

pub inside : {most n : ℕ} → 1 ≤ n → n ≤ most → Outside most n → ⊥
inside a b (inl x) = omega arith
inside a b (inr x) = omega arith

-- a check alone that does not refuse
alone : {c : ℕ} {P : Type 0} → 0 < c → Checked ((c, P) ∷ []) 0 → P → ⊥
alone p (inl x) q = omega arith
alone p (inr x) q = x.0 q

pub not_outside : (most n : ℕ) → (Outside most n → ⊥) → (1 ≤ n) × (n ≤ most)
not_outside most n h = elim (dec_lt n 1) [
  | yes l ↦ absurd (h (inl l))
  | no l ↦ elim (dec_lt most n) [ yes q ↦ absurd (h (inr q)) | no q ↦ (omega arith, omega arith) ]
]

-- what it says that each check of a shape passes
pub record Sized (k m : ℕ) : Type 0 where
  pub k_low : 1 ≤ k
  pub k_high : k ≤ max_k
  pub m_low : 1 ≤ m
  pub m_high : m ≤ max_m

pub sized : (k m : ℕ) → Checked (size_checks k m) 0 → Sized k m
sized k m c =
    let x = not_outside max_k k (λ o. alone (omega arith) c (inl o)) in
    let y = not_outside max_m m (λ o. alone (omega arith) c (inr o)) in
    record { k_low = x.0; k_high = x.1; m_low = y.0; m_high = y.1 }

pub family_in_range : (family : ℕ) → Checked (family_number_checks family) 0 → (1 ≤ family) × (family ≤ max_family)
family_in_range family c = not_outside max_family family (alone (omega arith) c)

pub lengthed : (l : ℕ) → Checked (length_checks l) 0 → (1 ≤ l) × (l ≤ max_length)
lengthed l c = not_outside max_length l (alone (omega arith) c)

pub striped : (stripes : ℕ) → Checked (stripes_checks stripes) 0 → (1 ≤ stripes) × (stripes ≤ max_stripes)
striped stripes c = not_outside max_stripes stripes (alone (omega arith) c)

pub one_of : (n i : ℕ) → Checked (number_checks n i) 0 → (1 ≤ i) × (i ≤ n)
one_of n i c = not_outside n i (alone (omega arith) c)

pub tabled : (k m : ℕ) (table : List ℕ) → Checked (table_checks k m table) 0 → (length table ≡ m * k) × ((i : ℕ) → at table i ≤ max_shift)
tabled k m table c = (
  elim (ℕ_discrete (length table) (m * k)) [ yes e ↦ e | no n ↦ absurd (alone (omega arith) c (inl n)) ],
  λ i. elim (dec_le (at table i) max_shift) [ yes l ↦ l | no n ↦ absurd (alone (omega arith) c (inr (i, omega arith))) ],
)

-- a buffer of the exact length
pub exact : (c n : ℕ) (xs : List ℕ) → 0 < c → Checked ((c, (length xs ≡ n → ⊥)) ∷ []) 0 → length xs ≡ n
exact c n xs p x = elim (ℕ_discrete (length xs) n) [ yes e ↦ e | no ne ↦ absurd (alone p x ne) ]

pub exactly_long : (c n : ℕ) (xs : List ℕ) → length xs ≡ n → Checked ((c, (length xs ≡ n → ⊥)) ∷ []) 0
exactly_long c n xs e = inr ((λ h. h e), refl)

-- marks that are exactly as many as are asked for, and none above
pub counted : (k m marks : ℕ) → Checked (marks_checks k m marks) 0 → count (k + m) (mark marks) ≡ asked k
counted k m marks (inl x) = absurd (omega arith)
counted k m marks (inr x) = elim (ℕ_discrete (count (k + m) (mark marks)) (asked k)) [ yes e ↦ e | no n ↦ absurd (alone (omega arith) x.1 n) ]

pub none_above : (k m marks : ℕ) → Checked (marks_checks k m marks) 0 → (i : ℕ) → k + m ≤ i → mark marks i ≡ true → ⊥
none_above k m marks (inl x) i l e = omega arith
none_above k m marks (inr x) i l e = x.0 (i, l, e)

-- 6 for the number asked for, and 6 and 7 for the marks, are one check 6, and 7
module _ (k m marks among i : ℕ) where
  pub asked_stops : (n : ℕ) → Checked (number_checks among i) n → (n ≡ 0 → ⊥) → Checked (asked_checks k m marks among i) n
  asked_stops n (inl x) h = inl (inr x.0, x.1)
  asked_stops n (inr x) h = absurd (h x.1)

  pub asked_goes : (n : ℕ) → Checked (number_checks among i) 0 → Checked (marks_checks k m marks) n → Checked (asked_checks k m marks among i) n
  asked_goes n (inl x) c = absurd (omega arith)
  asked_goes n (inr x) (inl c) = inl (inl c.0, c.1)
  asked_goes n (inr x) (inr c) = inr (neither c.0 x.0, c.1)

  -- which say of the marks and of the number what each said alone
  pub asked_parts : Checked (asked_checks k m marks among i) 0 → Checked (marks_checks k m marks) 0 × Checked (number_checks among i) 0
  asked_parts (inl c) = absurd (omega arith)
  asked_parts (inr c) = (inr ((λ a. c.0 (inl a)), c.1), inr ((λ o. c.0 (inr o)), refl))

  pub asked_one : Checked (asked_checks k m marks among i) 0 → (1 ≤ i) × (i ≤ among)
  asked_one c = one_of among i (asked_parts c).1

-- the lengths that were asked for are those of the checks
pub lengths_are : (a a' b b' : ℕ) (xs ys : List ℕ) (n : ℕ) → a ≡ a' → b ≡ b' → Checked (input_checks a xs ++ output_checks b ys) n → Checked (input_checks a' xs ++ output_checks b' ys) n
lengths_are a a' b b' xs ys n e f c = subst (λ x. Checked (input_checks x xs ++ output_checks b' ys) n) e (subst (λ y. Checked (input_checks a xs ++ output_checks y ys) n) f c)

-- both buffers have the exact length
pub lengths_exact : (a b : ℕ) (xs ys : List ℕ) → Checked (input_checks a xs ++ output_checks b ys) 0 → (length xs ≡ a) × (length ys ≡ b)
lengths_exact a b xs ys c =
    let p = passed (input_checks a xs) (output_checks b ys) (numbered_by (input_checks a xs) refl) c in
    (exact 4 a xs (omega arith) p.0, exact 5 b ys (omega arith) p.1)

-- a flag is 1 exactly when what it tells holds
pub flag_up : {P : Type 0} {n : ℕ} → Flag P n → P → n ≡ 1
flag_up (inl x) p = x.1
flag_up (inr x) p = absurd (x.0 p)

pub flag_holds : {P : Type 0} → Flag P 1 → P
flag_holds (inl x) = x.0
flag_holds (inr x) = absurd (omega arith)

pub flag_down : {P : Type 0} {n : ℕ} → Flag P n → n ≡ 0 → P → ⊥
flag_down (inl x) z p = omega arith
flag_down (inr x) z p = x.0 p

pub flag_low : {P : Type 0} {n : ℕ} → Flag P n → (P → ⊥) → n ≡ 0
flag_low (inl x) h = absurd (h x.0)
flag_low (inr x) h = x.1

pub flag_once : {P : Type 0} {n n' : ℕ} → Flag P n → Flag P n' → n ≡ n'
flag_once (inl x) y = x.1 ∙ sym (flag_up y x.0)
flag_once (inr x) y = x.1 ∙ sym (flag_low y x.0)
