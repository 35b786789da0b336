-- A line is its three numbers and their stops: laws for the reader, and two lines of one input are the same.
use mathlib.Core.Path.{◌≡◌, sym, ap, subst, ◌∙◌}
use mathlib.Core.Logic.{◌⊎◌, inl, inr}
use mathlib.Core.List.{List, [], ◌∷◌, ◌++◌}
use Prim.Native.Nat.{ℕ, ◌<◌}
use native.Mathlib.Omega.{arith}
use lib.ListN.{length, drop, length-drop}
use Rattle.table.specs.Limits.{max_k, max_m, max_length}
use Rattle.table.specs.Checks.{Checked, Outside, size_checks, length_checks}
use Rattle.text.specs.Text.{space, line_feed}
use Rattle.text.specs.Numerals.{numeral}
use Rattle.line.specs.Reading.{TokenAt, NoTokenAt}
use Rattle.line.specs.Promise.{Line, value_checks, sheet_checks}
use Rattle.text.proofs.NumeralLaws.{one_token}

-- where a numeral below 1000 and the stop stand, the token that is found is that numeral
pub token_is : (input : List ℕ) (i stop v next w : ℕ) (rest : List ℕ) → stop < 48 → TokenAt input i stop v next → drop i input ≡ numeral w ++ stop ∷ rest → drop next input ≡ rest
token_is input i stop v next w rest ls t e = (one_token v w stop (drop next input) rest (λ d. omega (arith, d)) (sym t.found ∙ e)).1

module _ (input : List ℕ) where
  abbrev Lineless : Type 0
  Lineless = (k m l : ℕ) → Line input k m l → ⊥

  module _ {v a : ℕ} (first : TokenAt input 0 space v a) where
    pub second_missing : NoTokenAt input a space → Lineless
    second_missing none k m l x = none m _ x.m_low (token_is input 0 space v a k _ (omega arith) first x.text)

    module _ {w b : ℕ} (second : TokenAt input a space w b) where
      last_token : {k m l : ℕ} → Line input k m l → drop b input ≡ numeral l ++ line_feed ∷ []
      last_token {k} {m} {l} x = token_is input a space w b m _ (omega arith) second (token_is input 0 space v a k _ (omega arith) first x.text)

      pub third_missing : NoTokenAt input b line_feed → Lineless
      third_missing none k m l x = none l [] x.l_low (last_token x)

      pub more_follows : {u c : ℕ} → TokenAt input b line_feed u c → (c ≡ length input → ⊥) → Lineless
      more_follows {u} {c} third n k m l x = n (omega (arith, third.within, length-drop c input, ap length (token_is input b line_feed u c l [] (omega arith) third (last_token x))))

-- two lines of one input are the same
pub one_line : {input : List ℕ} {k m l k' m' l' : ℕ} → Line input k m l → Line input k' m' l' → (k ≡ k') × (m ≡ m') × (l ≡ l')
one_line {k = k} {m = m} {l = l} {k' = k'} {m' = m'} {l' = l'} x y =
    let f = one_token k k' space _ _ (λ d. omega (arith, d)) (sym x.text ∙ y.text) in
    let s = one_token m m' space _ _ (λ d. omega (arith, d)) f.1 in
    (f.0, s.0, (one_token l l' line_feed [] [] (λ d. omega (arith, d)) s.1).0)

-- the checks of the numbers of a line are those of the values of the input
module _ (input : List ℕ) {k m l : ℕ} (x : Line input k m l) where
  sides : (k : ℕ) × (m : ℕ) × (l : ℕ) × Line input k m l × (Outside max_k k ⊎ Outside max_m m) → Outside max_k k ⊎ Outside max_m m
  sides w =
      let e = one_line w.3 x in
      subst (λ a. Outside max_k a ⊎ Outside max_m m) e.0 (subst (λ b. Outside max_k w.0 ⊎ Outside max_m b) e.1 w.4)

  pub length_checked : (n : ℕ) → Checked (size_checks k m) 0 → Checked (length_checks l) n → Checked (value_checks input) n
  length_checked n (inl p) c = absurd (omega (arith, p.1))
  length_checked n (inr p) (inl q) = inr (λ w. p.0 (sides w), inl ((k, m, l, x, q.0), q.1))
  length_checked n (inr p) (inr q) = inr (λ w. p.0 (sides w), inr (λ w. q.0 (subst (Outside max_length) (one_line w.3 x).2 w.4), q.1))

  -- past 18 and 1, the length decides
  pub length_decides : (n : ℕ) → Checked (size_checks k m) 0 → Checked (length_checks l) n → Checked (sheet_checks input) n
  length_decides n size c = inr (λ h. h k m l x, length_checked n size c)
