-- Laws of the line reader: what stands at a place of the input.
use mathlib.Core.Path.{◌≡◌, refl, sym, ap, ap₂, ◌∙◌}
use mathlib.Core.Logic.{◌⊎◌, inl, inr}
use mathlib.Core.List.{List, [], ◌∷◌, ◌++◌, append_assoc}
use Prim.Native.Nat.{ℕ, ◌+◌, ◌-◌, ◌*◌, ◌≤◌, ◌<◌}
use native.Mathlib.Omega.{arith}
use native.Mathlib.Numerals.{add-one}
use lib.ListN.{length, drop, length-drop}
use lib.Seq.{drop-cons}
use Rattle.bits.specs.Sums.{at}
use Rattle.text.specs.Numerals.{digit, numeral}
use Rattle.line.specs.Reading.{DigitAt, NoDigitAt, NumberAt, NoTokenAt}
use Rattle.text.proofs.NumeralLaws.{Digits, numeral-digit, numeral_more, numeral_digits, numeral_some, no_leading_zero, longer_is_larger, digits_first}

empty : {x : ℕ} {xs : List ℕ} → [] ≡ x ∷ xs → ⊥
empty e = let z : ◌≡◌ {A = ℕ} 0 1 = cc in omega arith

module _ (input : List ℕ) (i : ℕ) where
  -- what stands first from i on is the byte at i
  first_is : i < length input → (x : ℕ) (rest : List ℕ) → drop i input ≡ x ∷ rest → at input i ≡ x
  first_is l x rest e = let f = sym (drop-cons input i 0 l) ∙ e in cc

  -- one digit
  pub one_digit : {a : ℕ} → DigitAt input i a → drop i input ≡ numeral a ++ drop (i + 1) input
  one_digit {a} d = d.found ∙ ap₂ ◌++◌ (sym (numeral-digit a d.low)) (ap (λ n. drop n input) (sym (add-one i)))

  -- one digit more
  pub digit_more : {value next d : ℕ} → drop i input ≡ numeral value ++ drop next input → 0 < value → DigitAt input next d → drop i input ≡ numeral (10 * value + d) ++ drop (next + 1) input
  digit_more {value} {next} {d} e p f =
      e ∙ ap (λ r. numeral value ++ r) (f.found ∙ ap (λ n. digit d ∷ drop n input) (sym (add-one next)))
      ∙ sym (append_assoc (numeral value) (digit d ∷ []) (drop (next + 1) input))
      ∙ ap (λ t. t ++ drop (next + 1) input) (sym (numeral_more value d p f.low))

  -- two digits
  pub two_digits : {a b : ℕ} → DigitAt input i a → 0 < a → DigitAt input (i + 1) b → drop i input ≡ numeral (10 * a + b) ++ drop (i + 2) input
  two_digits {a} {b} d p f =
      let e : i + 1 + 1 ≡ i + 2 = omega arith in
      digit_more (one_digit d) p f ∙ ap (λ n. numeral (10 * a + b) ++ drop n input) e

  -- no numeral begins with something else than a digit
  numeral_begins : NoDigitAt input i → (v : ℕ) (rest : List ℕ) → drop i input ≡ numeral v ++ rest → ⊥
  numeral_begins h v rest e = go (numeral v) refl (numeral_digits v)
    where
      go : (t : List ℕ) → numeral v ≡ t → Digits t → ⊥
      go [] q d = numeral_some v q
      go (z ∷ t) q d =
          let w : z ≡ digit (z - 48) = omega (arith, d.0) in
          h (z - 48) (t ++ rest) (omega (arith, d.0)) (e ∙ ap (λ l. l ++ rest) q ∙ ap (λ x. x ∷ (t ++ rest)) w)

  -- no other numeral stands there with the stop after it
  wrong_stop : (value stop : ℕ) (r : List ℕ) → stop < 48 → drop i input ≡ numeral value ++ r
      → ((x : ℕ) (rest : List ℕ) → x < 10 → r ≡ digit x ∷ rest → (value ≡ 0) ⊎ (100 ≤ value)) → ((rest : List ℕ) → r ≡ stop ∷ rest → ⊥)
      → NoTokenAt input i stop
  wrong_stop value stop r ls e h n v rest lv f =
      let w = digits_first (numeral v) (numeral value) rest r stop (numeral_digits v) (numeral_digits value) (λ d. omega (arith, d)) (sym f ∙ e) in
      go w.0 w.1 w.2 w.3
    where
      zero_alone : (z : ℕ) (zs : List ℕ) → value ≡ 0 → numeral v ≡ numeral value ++ z ∷ zs → ⊥
      zero_alone z zs q g =
          let g' : numeral v ≡ digit 0 ∷ z ∷ zs = g ∙ ap (λ x. numeral x ++ z ∷ zs) q ∙ ap (λ t. t ++ z ∷ zs) (numeral-digit 0 (omega arith)) in
          let k : digit 0 ∷ [] ≡ digit 0 ∷ z ∷ zs = sym (ap numeral (no_leading_zero v (z ∷ zs) g') ∙ numeral-digit 0 (omega arith)) ∙ g' in
          empty {x = z} {xs = zs} cc

      go : (zs : List ℕ) → Digits zs → numeral v ≡ numeral value ++ zs → r ≡ zs ++ stop ∷ rest → ⊥
      go [] d g k = n rest k
      go (z ∷ zs) d g k =
          let w : z ≡ digit (z - 48) = omega (arith, d.0) in
          part (h (z - 48) (zs ++ stop ∷ rest) (omega (arith, d.0)) (k ∙ ap (λ x. x ∷ (zs ++ stop ∷ rest)) w))
        where
          part : (value ≡ 0) ⊎ (100 ≤ value) → ⊥
          part (inl q) = zero_alone z zs q g
          part (inr l) = omega (arith, longer_is_larger value v z zs g)

  pub no_token : (stop value next : ℕ) → stop < 48 → NumberAt input i value next → ((rest : List ℕ) → drop next input ≡ stop ∷ rest → ⊥) → NoTokenAt input i stop
  no_token stop value next ls a n v rest lv f = wrong_stop value stop (drop next input) ls a.found a.longest n v rest lv f

  pub no_number : (stop : ℕ) → NoDigitAt input i → NoTokenAt input i stop
  no_number stop h v rest lv f = numeral_begins h v (stop ∷ rest) f

-- where the stop follows, there is a byte at next, and it is the stop
pub stop_stands : (input : List ℕ) (next stop : ℕ) (rest : List ℕ) → drop next input ≡ stop ∷ rest → (next < length input) × (at input next ≡ stop)
stop_stands input next stop rest e =
    let l : next < length input = omega (arith, length-drop next input, ap length e) in
    (l, first_is input next l stop rest e)
