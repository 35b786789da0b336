-- Laws of digits that are written from the last on.
use mathlib.Core.Path.{◌≡◌, sym, ap, ap₂, ◌∙◌}
use mathlib.Core.List.{List, [], ◌∷◌, ◌++◌, append_assoc}
use Prim.Native.Nat.{ℕ, zero, suc, ◌+◌, ◌/◌, ◌%◌, ◌^◌, ◌≤◌, ◌<◌}
use native.Mathlib.Omega.{arith}
use native.Mathlib.Numerals.{add-one}
use lib.Pow.{pow-add}
use lib.ListN.{length, drop, set, length-set}
use lib.Seq.{drop-cons, drop-set-lt, get_or-set_same}
use Rattle.text.specs.Numerals.{digit, numeral}
use Rattle.text.proofs.NumeralLaws.{numeral-digit, numeral_step}

-- what stands at a place that was set, and behind it
drop-set : (text : List ℕ) (start x : ℕ) → start < length text → drop start (set text start x) ≡ x ∷ drop (start + 1) text
drop-set text start x l =
    let m : start < length (set text start x) = simp length-set l in
    let behind : drop (suc start) (set text start x) ≡ drop (start + 1) text = drop-set-lt (suc start) text start x (omega arith) ∙ ap (λ n. drop n text) (sym (add-one start)) in
    drop-cons (set text start x) start 0 m ∙ ap₂ (λ a b. a ∷ b) (get_or-set_same text start x 0 l) behind

module _ (n left start : ℕ) (text : List ℕ) (l : start < length text) (so_far : numeral n ≡ numeral left ++ drop (start + 1) text) where
  -- the last digit is written, and the number without it is left
  pub digit_before : 10 ≤ left → numeral n ≡ numeral (left / 10) ++ drop start (set text start (digit (left % 10)))
  digit_before h =
      so_far ∙ ap (λ t. t ++ drop (start + 1) text) (numeral_step left h)
      ∙ append_assoc (numeral (left / 10)) (digit (left % 10) ∷ []) (drop (start + 1) text)
      ∙ ap (λ t. numeral (left / 10) ++ t) (sym (drop-set text start (digit (left % 10)) l))

  -- and one digit is left at the end
  pub first-digit : left < 10 → drop start (set text start (digit left)) ≡ numeral n
  first-digit h = drop-set text start (digit left) l ∙ sym (so_far ∙ ap (λ t. t ++ drop (start + 1) text) (numeral-digit left h))

-- where a number of two digits or more has so many places, there is a place before
pub place_before : (left start : ℕ) → 10 ≤ left → left < 10 ^ (start + 1) → (0 < start) × (left / 10 < 10 ^ start)
place_before left zero h l = absurd (omega arith)
place_before left (suc start) h l = (omega arith, omega (arith, pow-add 10 (suc start) 1))
