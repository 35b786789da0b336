-- Runs: what is bare stays bare, so all orders end alike. Assumes nothing.
use mathlib.Core.Path.{◌≡◌, refl, sym, ap, ◌∙◌, fun_ext, subst}
use mathlib.Core.Logic.{◌≢◌}
use mathlib.Core.List.{[], ◌∷◌, ◌++◌}
use Prim.Native.Nat.{ℕ, suc}
use native.Mathlib.Omega.{arith}
use native.Mathlib.Decide.{ℕ_discrete}
use lib.ListN.{length}
use Rattle.bits.proofs.SumLaws.{one_at_same, one_at_other}
use Rattle.table.specs.Desk.{Desk}
use Rattle.walk.specs.Walk.{Order, bump, Bare, Stuck, Run, done, step, Fits}

pub bump_comm : (g : ℕ → ℕ) (b d : ℕ) → bump (bump g b) d ≡ bump (bump g d) b
bump_comm g b d = fun_ext λ c. omega arith

module _ (D : Desk) where
  open D use {k, m, bits, shift, present}

  -- a bare pair stays bare when another source goes on
  pub stays : (g : ℕ → ℕ) (a b d : ℕ) → d ≢ b → Bare D g a b → Bare D (bump g d) a b
  stays g a b d ne r = record {
    held = r.held;
    free = (r.free.0, omega (arith, one_at_other d b ne));
    lowest = λ c nc f. omega (arith, one_at_other d b ne, r.lowest c nc (f.0, omega arith));
  }

  -- what is bare now comes first in some run to the same end, of the same length
  pub front : {g h : ℕ → ℕ} {o : Order} (a b : ℕ) → Bare D g a b → Run D g o h → Stuck D h → (o' : Order) × (length o ≡ suc (length o')) × Run D (bump g b) o' h
  front a b r done s = absurd (s a b r)
  front {g} {h} a b r (step {o = o} d e q u) s =
      elim (ℕ_discrete e b) [
        | yes p ↦ (o, refl, subst (λ (x : ℕ). Run D (bump g x) o h) p u)
        | no ne ↦
            let f = front a b (stays g a b e ne r) u s in
            ((d, e) ∷ f.0, ap suc f.1, step d e (stays g d e b (λ p. ne (sym p)) q) (rw (bump_comm g e b) at f.2))
      ]

  -- D3.2: all orders of steps, run until none is left, end at the same place after the same count
  pub same_end : {g h h' : ℕ → ℕ} {o o' : Order} → Run D g o h → Stuck D h → Run D g o' h' → Stuck D h' → (length o ≡ length o') × (h ≡ h')
  same_end done s done s' = (refl, refl)
  same_end done s (step a b r u) s' = absurd (s a b r)
  same_end (step a b r u) s v s' =
      let f = front a b r v s' in
      let i = same_end u s f.2 s' in
      (ap suc i.0 ∙ sym f.1, i.1)

  -- an order that is run from one place leads to one place
  pub run_once : {g h h' : ℕ → ℕ} {o : Order} → Run D g o h → Run D g o h' → h ≡ h'
  run_once done done = refl
  run_once (step a b r u) (step _ _ _ v) = run_once u v

  -- one more step at the end, as a loop makes it
  unfoldable pub snoc : {g h : ℕ → ℕ} {o : Order} (a b : ℕ) → Run D g o h → Bare D h a b → Run D g (o ++ (a, b) ∷ []) (bump h b)
  snoc a b done r = step a b r done
  snoc a b (step d e q u) r = step d e q (snoc a b u r)

  pub bump_fits : (g : ℕ → ℕ) (a b : ℕ) → Bare D g a b → Fits D g → Fits D (bump g b)
  bump_fits g a b r fit c = elim (ℕ_discrete b c) [
    | yes e ↦ omega (arith, r.free.1, ap g e, one_at_same b c e)
    | no ne ↦ omega (arith, fit c, one_at_other b c ne)
  ]

  pub run_fits : {g h : ℕ → ℕ} {o : Order} → Run D g o h → Fits D g → Fits D h
  run_fits done fit = fit
  run_fits {g} (step a b r u) fit = run_fits u (bump_fits g a b r fit)

  -- each step of an order is bare at the progress that the steps before it reach
  pub run_split : {g h : ℕ → ℕ} (o : Order) {o' : Order} (a b : ℕ) → Run D g (o ++ (a, b) ∷ o') h → (g' : ℕ → ℕ) × Run D g o g' × Bare D g' a b × Run D (bump g' b) o' h
  run_split {g} [] a b (step _ _ B u) = (g, done, B, u)
  run_split {g} ((d, e) ∷ o) a b (step _ _ q u) = let r = run_split {g = bump g e} o a b u in (r.0, step d e q r.1, r.2, r.3)
