-- Laws of growing differences: step by step is as good as all at once, and the judge's test is that. Assumes nothing.
use mathlib.Core.Path.{◌≡◌, refl, sym, ap, ◌∙◌, subst}
use mathlib.Core.Logic.{inl, inr}
use mathlib.Core.Bool.{Bool, true, false}
use mathlib.Core.List.{List}
use Prim.Native.Nat.{ℕ, zero, suc, ◌+◌, ◌-◌, ◌*◌, ◌/◌, ◌%◌, ◌≤◌, ◌<◌}
use native.Mathlib.Omega.{arith}
use Rattle.std.specs.Prelude.{Ok}
use Rattle.bits.specs.Sums.{at}
use Rattle.bits.specs.Bits.{Tells}
use Rattle.table.specs.Limits.{max_k, max_m}
use Rattle.table.specs.Desk.{desk, entry, Grows}
use Rattle.table.specs.Table.{laid_out, Holds}
use Rattle.table.specs.Checks.{Flag}
use Rattle.family.specs.Judge.{growing, StepGrows, TableGrows}
use Rattle.table.specs.declared.Table.{Table}
use Rattle.table.proofs.TableLaws.{laid_in}

-- the rule for neighbours
abbrev Steps : ℕ → ℕ → (ℕ → ℕ → ℕ) → Type 0
Steps k m f = (a b : ℕ) → a + 1 < m → b + 1 < k → f a (b + 1) + f (a + 1) b < f (a + 1) (b + 1) + f a b

module _ (k m : ℕ) (f : ℕ → ℕ → ℕ) (steps : Steps k m f) where
  -- neighbouring rows, any two columns
  across : (a b d : ℕ) → a + 1 < m → b + d + 1 < k → f a (b + d + 1) + f (a + 1) b < f (a + 1) (b + d + 1) + f a b
  across a b zero la lb =
      let e : b + 0 + 1 ≡ b + 1 = omega arith in
      rw e (steps a b la (omega arith))
  across a b (suc d) la lb =
      let e : b + suc d + 1 ≡ b + d + 1 + 1 = omega arith in
      rw e (omega (arith, across a b d la (omega arith), steps a (b + d + 1) la (omega arith)))

  -- any two rows and columns
  down : (a c b d : ℕ) → a + c + 1 < m → b + d + 1 < k → f a (b + d + 1) + f (a + c + 1) b < f (a + c + 1) (b + d + 1) + f a b
  down a zero b d la lb =
      let e : a + 0 + 1 ≡ a + 1 = omega arith in
      rw e (across a b d (omega arith) lb)
  down a (suc c) b d la lb =
      let e : a + suc c + 1 ≡ a + c + 1 + 1 = omega arith in
      rw e (omega (arith, down a c b d (omega arith) lb, across (a + c + 1) b d (omega arith) lb))

  pub steps_grow : (a a' b b' : ℕ) → a < a' → a' < m → b < b' → b' < k → f a b' + f a' b < f a' b' + f a b
  steps_grow a a' b b' la ma lb kb =
      let ea : a + (a' - a - 1) + 1 ≡ a' = omega arith in
      let eb : b + (b' - b - 1) + 1 ≡ b' = omega arith in
      subst (λ y. f a y + f a' b < f a' y + f a b) eb
      (subst (λ x. f a (b + (b' - b - 1) + 1) + f x b < f x (b + (b' - b - 1) + 1) + f a b) ea (down a (a' - a - 1) b (b' - b - 1) (omega arith) (omega arith)))

-- cells of the sheet and entries
cells_are : (k : ℕ) (shifts : List ℕ) (a b i : ℕ) → b < k → i ≡ a * max_k + b → at shifts i ≡ laid_out k shifts a b
cells_are k shifts a b i l e = ap (at shifts) e ∙ laid_in k shifts a b l

-- the four cells of two neighbouring rows and columns
pub record Corners (k : ℕ) (shifts : List ℕ) (a b : ℕ) : Type 0 where
  pub here : at shifts (a * max_k + b) ≡ laid_out k shifts a b
  pub beside : at shifts (a * max_k + b + 1) ≡ laid_out k shifts a (b + 1)
  pub below : at shifts (a * max_k + b + max_k) ≡ laid_out k shifts (a + 1) b
  pub across : at shifts (a * max_k + b + max_k + 1) ≡ laid_out k shifts (a + 1) (b + 1)

corners : (k : ℕ) (shifts : List ℕ) (a b : ℕ) → b + 1 < k → Corners k shifts a b
corners k shifts a b l = record {
  here = cells_are k shifts a b (a * max_k + b) (omega arith) refl;
  beside = cells_are k shifts a (b + 1) (a * max_k + b + 1) l (omega arith);
  below = cells_are k shifts (a + 1) b (a * max_k + b + max_k) (omega arith) (omega arith);
  across = cells_are k shifts (a + 1) (b + 1) (a * max_k + b + max_k + 1) l (omega arith);
}

module _ {k m : ℕ} {table : List ℕ} {t : Table} (H : Holds k m table t) where
  laid-steps : Steps k m (laid_out k t.shifts) → TableGrows k m t.shifts
  laid-steps s i li la lb = let c = corners k t.shifts (i / max_k) (i % max_k) lb in omega (arith, s (i / max_k) (i % max_k) la lb)

  steps-laid : k ≤ max_k → m ≤ max_m → TableGrows k m t.shifts → Steps k m (laid_out k t.shifts)
  steps-laid kh mh g a b la lb =
      let i = a * max_k + b in
      let ea : i / max_k ≡ a = omega arith in
      let eb : i % max_k ≡ b = omega arith in
      let here = g i (omega arith) (omega arith) (omega arith) in
      let there : StepGrows t.shifts a b = subst (StepGrows t.shifts a) eb (subst (λ x. StepGrows t.shifts x (i % max_k)) ea here) in
      let c = corners k t.shifts a b lb in
      omega (arith, there)

  -- the judge's test is growing differences
  pub grows_judged : k ≤ max_k → m ≤ max_m → TableGrows t.k t.m t.shifts → Grows (desk k m 0 table 0)
  grows_judged kh mh g =
      let s : Steps k m (laid_out k t.shifts) = steps-laid kh mh (subst (λ x. TableGrows x m t.shifts) H.k_is (subst (λ x. TableGrows t.k x t.shifts) H.m_is g)) in
      steps_grow k m (entry k table) (subst (Steps k m) H.laid s)

  pub judged_grows : Grows (desk k m 0 table 0) → TableGrows t.k t.m t.shifts
  judged_grows G =
      let s : Steps k m (laid_out k t.shifts) = subst (Steps k m) (sym H.laid) (λ a b la lb. G a (a + 1) b (b + 1) (omega arith) la (omega arith) lb) in
      subst (λ x. TableGrows t.k x t.shifts) (sym H.m_is) (subst (λ x. TableGrows x m t.shifts) (sym H.k_is) (laid-steps s))

  -- what it tells is the flag of it
  pub judged_flag : k ≤ max_k → m ≤ max_m → (b : Bool) → Tells b (TableGrows t.k t.m t.shifts) → Flag (Grows (desk k m 0 table 0)) (growing (Ok b))
  judged_flag kh mh true w = inl (grows_judged kh mh (w.so refl), refl)
  judged_flag kh mh false w = inr ((λ g. w.not_so refl (judged_grows g)), refl)
