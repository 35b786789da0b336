-- The checks of rebuild log, taken apart: those in front of 8, 9 and 10, and these. Assumes nothing.
use mathlib.Core.Path.{◌≡◌, refl, sym, subst}
use mathlib.Core.Logic.{◌⊎◌, inl, inr}
use mathlib.Core.Bool.{Bool, true, false, not, ◌&&◌, true≢false, and-eq-true_iff}
use mathlib.Core.List.{List, [], ◌∷◌, ◌++◌}
use Prim.Native.Nat.{ℕ}
use lib.Dec.{eqb}
use borrow.Author.Tests.{eq-eqb}
use Rattle.table.specs.Desk.{Desk, desk}
use Rattle.table.specs.Checks.{Checks, Checked, shape_checks, stripes_checks, marks_checks}
use Rattle.walk.specs.Ends.{Finishes}
use Rattle.walk.proofs.Ends.{some_finishes}
use Rattle.stripe.specs.Stripes.{AtStripe, log_decode_checks}
use Rattle.whole_log.specs.Stages.{log_lengths_checks}
use Rattle.whole_log.specs.Promise.{log_checks}

-- no check has the number x, which is computed
abbrev Lacks : ℕ → Checks → Type 0
Lacks x [] = Unit
Lacks x (c ∷ cs) = (x ≡ c.0 → ⊥) × Lacks x cs

abbrev lacks_b : ℕ → Checks → Bool
lacks_b x [] = true
lacks_b x (c ∷ cs) = not (eqb x c.0) && lacks_b x cs

not_true : (v : Bool) → not v ≡ true → v ≡ true → ⊥
not_true true e f = true≢false (sym e)
not_true false e f = true≢false (sym f)

lacks_by : (x : ℕ) (cs : Checks) → lacks_b x cs ≡ true → Lacks x cs
lacks_by x [] e = tt
lacks_by x (c ∷ cs) e =
    let w = (and-eq-true_iff (not (eqb x c.0)) (lacks_b x cs)).0 e in
    ((λ f. not_true (eqb x c.0) w.0 (eq-eqb x c.0 f)), lacks_by x cs w.1)

-- a number that no check of the first list has comes from the list after it, and the first does not refuse
from_behind : (x : ℕ) (cs ds : Checks) → Lacks x cs → Checked (cs ++ ds) x → Checked cs 0 × Checked ds x
from_behind x [] ds b c = (refl, c)
from_behind x (d ∷ cs) ds b (inl c) = absurd (b.0 c.1)
from_behind x (d ∷ cs) ds b (inr c) = let r = from_behind x cs ds b.1 c.1 in (inr (c.0, r.0), r.1)

-- where 8, 9 and 10 decide and it is not 8, some order finishes
pub log_finishes : (D : Desk) (stripes : ℕ) (packets : List ℕ) (n : ℕ) → (n ≡ 8 → ⊥) → Checked (log_decode_checks D stripes packets) n → (c : ℕ) × Finishes D c
log_finishes D stripes packets n other (inl c) = absurd (other c.1)
log_finishes D stripes packets n other (inr c) = some_finishes D c.0

module _ (k m l : ℕ) (table : List ℕ) (stripes marks : ℕ) (packets before : List ℕ) where
  abbrev D : Desk
  D = desk k m l table marks

  -- 1 2 3 25 6 7 4 5
  abbrev front : Checks
  front = shape_checks k m l table ++ stripes_checks stripes ++ marks_checks k m marks ++ log_lengths_checks D stripes packets before

  -- none of them has the number 0, 9 or 10
  lacks_these : (n : ℕ) → (n ≡ 0) ⊎ AtStripe n → Lacks n front
  lacks_these n (inl e) = subst (λ x. Lacks x front) (sym e) (lacks_by 0 front refl)
  lacks_these n (inr (inl e)) = subst (λ x. Lacks x front) (sym e) (lacks_by 9 front refl)
  lacks_these n (inr (inr e)) = subst (λ x. Lacks x front) (sym e) (lacks_by 10 front refl)

  -- so with these they do not refuse, and 8, 9 and 10 decide
  pub log_decided : (n : ℕ) → (n ≡ 0) ⊎ AtStripe n → Checked (log_checks k m l table stripes marks packets before) n → Checked front 0 × Checked (log_decode_checks D stripes packets) n
  log_decided n read c = from_behind n front (log_decode_checks D stripes packets) (lacks_these n read) c
