-- The bits uncovered are the steps made, so every run is short. Assumes nothing.
use mathlib.Core.Path.{◌≡◌, refl, ap}
use mathlib.Core.Bool.{Bool, cond, not}
use Prim.Native.Nat.{ℕ, suc, ◌+◌, ◌*◌, ◌≤◌}
use native.Mathlib.Omega.{arith}
use native.Mathlib.Nat.{mul-le-mul}
use borrow.Author.Tests.{not-true}
use lib.ListN.{length}
use Rattle.bits.specs.Sums.{sum, count}
use Rattle.bits.proofs.SumLaws.{one_at_same, one_at_other, sum_le, sum_but, sum_each, cond_le, count_not}
use Rattle.table.specs.Desk.{Desk}
use Rattle.walk.specs.Walk.{Order, bump, Gone, Run, done, step, Fits, Whole}
use Rattle.walk.proofs.Runs.{run_fits}

module _ (D : Desk) where
  open D use {k, m, bits, shift, present}

  -- the missing sources
  abbrev pub gone : ℕ → Bool
  gone b = not (present b)

  -- the bits of the missing sources that are uncovered
  unfoldable pub total : (ℕ → ℕ) → ℕ
  total g = sum k (λ c. cond (gone c) (g c) 0)

  -- all the bits of the missing sources
  abbrev pub all : ℕ
  all = bits * count k gone

  pub total-all : (g : ℕ → ℕ) → Fits D g → total g ≤ all
  unfolding total
  total-all g fit = omega (arith, sum_each bits k gone, sum_le k (λ c. cond (gone c) (g c) 0) (λ c. cond (gone c) bits 0) (λ c l. cond_le (gone c) _ _ (λ e. fit c)))

  pub total_whole : (g : ℕ → ℕ) → Fits D g → Whole D g → total g ≡ all
  unfolding total
  total_whole g fit full =
      let each = sum_le k (λ c. cond (gone c) bits 0) (λ c. cond (gone c) (g c) 0) (λ c l. cond_le (gone c) _ _ (λ e. omega (arith, full c (l, not-true _ e)))) in
      omega (arith, total-all g fit, sum_each bits k gone)

  pub total_none : total (λ c. 0) ≡ 0
  unfolding total
  total_none = omega (arith, sum_each 0 k gone)

  pub total_step : (g : ℕ → ℕ) (b : ℕ) → Gone D b → total (bump g b) ≡ suc (total g)
  unfolding total
  total_step g b gb =
      let d = sum_but k b (λ c. cond (gone c) (bump g b c) 0) (λ c. cond (gone c) (g c) 0) gb.0
      (λ c l ne. ap (λ v. cond (gone c) v 0) (omega (arith, one_at_other b c ne))) in
      omega (arith, rw gb.1 at d, one_at_same b b refl)

  -- the count is what the progress numbers rose by
  pub run-total : {g h : ℕ → ℕ} {o : Order} → Run D g o h → total h ≡ total g + length o
  run-total done = omega arith
  run-total {g} (step a b r u) = omega (arith, run-total u, total_step g b r.free.0)

  -- every order ends: it has at most as many steps as there are bits left
  pub run_short : {g h : ℕ → ℕ} {o : Order} → Run D g o h → Fits D g → total g + length o ≤ all
  run_short {h = h} u fit = omega (arith, run-total u, total-all h (run_fits D u fit))

  pub all_most : (b c : ℕ) → bits ≤ b → k ≤ c → all ≤ b * c
  all_most b c p q =
      let h : count k gone ≤ c = omega (arith, count_not k present) in
      mul-le-mul p h
