-- Where a walk stands after some steps: each lengthens an order that leads there from nothing. Assumes nothing.
use mathlib.Core.Path.{◌≡◌, refl, sym, ◌∙◌, subst, fun_ext}
use mathlib.Core.List.{List, [], ◌∷◌, ◌++◌}
use Prim.Native.Nat.{ℕ, ◌+◌, ◌≤◌, ◌<◌}
use native.Mathlib.Omega.{arith}
use native.Mathlib.Decide.{dec_lt}
use lib.ListN.{length, set, length-append, length-set, get_or-replicate, get_or-eq_default}
use Rattle.bits.specs.Sums.{at}
use Rattle.table.specs.Limits.{max_k, noughts}
use Rattle.table.specs.Desk.{Desk}
use Rattle.table.specs.Checks.{Flag}
use Rattle.walk.specs.Walk.{Order, bump, Bare, Stuck, Run, done, Fits, Whole}
use Rattle.walk.specs.Ends.{Reaches}
use Rattle.walk.specs.Promise.{Finished}
use Rattle.walk.proofs.Runs.{snoc, run_fits}
use Rattle.walk.proofs.Totals.{all, total_none, run_short}
use Rattle.walk.proofs.Computed.{at-bump}

pub at-noughts : (λ (c : ℕ). 0) ≡ at noughts
at-noughts = fun_ext λ c. elim (dec_lt c max_k) [
  | yes l ↦ sym (get_or-replicate max_k c 0 0 l)
  | no l ↦ sym (get_or-eq_default noughts 0 (past c l))
]
  where
    past : (c : ℕ) → (c < max_k → ⊥) → max_k ≤ c
    past c l = omega arith

module _ (D : Desk) where
  open D use {k}

  -- an order leads where it runs
  abbrev pub run_reaches : {o : Order} {h : ℕ → ℕ} → Run D (λ c. 0) o h → Reaches D (length o) h
  run_reaches {o} u = record { order = o; run = u; counted = refl }

  -- no step, and one step more
  abbrev pub reaches_none : Reaches D 0 (λ c. 0)
  reaches_none = run_reaches done

  abbrev pub reaches_more : {n : ℕ} {g : ℕ → ℕ} (a b : ℕ) → Reaches D n g → Bare D g a b → Reaches D (n + 1) (bump g b)
  reaches_more a b r B = record {
    order = r.order ++ (a, b) ∷ [];
    run = snoc D a b r.run B;
    counted = omega (arith, r.counted, length-append r.order ((a, b) ∷ []));
  }

  -- no source is past its end, and there are no more steps than bits
  pub reaches_fits : {n : ℕ} {g : ℕ → ℕ} → Reaches D n g → Fits D g
  reaches_fits r = run_fits D r.run (λ b. omega arith)

  pub reaches_short : {n : ℕ} {g : ℕ → ℕ} → Reaches D n g → n ≤ all D
  reaches_short r = omega (arith, run_short D r.run (λ b. omega arith), total_none D, r.counted)

  -- so many steps lead to the progress in a list
  pub record Reached (g : List ℕ) (count : ℕ) : Type 0 where
    pub steps : Reaches D count (at g)
    pub size : length g ≡ max_k

  pub reached_none : Reached noughts 0
  reached_none = record { steps = subst (Reaches D 0) at-noughts reaches_none; size = refl }

  pub reached_more : {g after : List ℕ} {count : ℕ} (a b : ℕ) → k ≤ max_k → Reached g count → Bare D (at g) a b → after ≡ set g b (at g b + 1) → Reached after (count + 1)
  reached_more {g} {after} {count} a b kl r B e = subst (λ (h : List ℕ). Reached h (count + 1)) (sym e) record {
    steps = subst (Reaches D (count + 1)) (sym (at-bump g b (omega (arith, r.size, B.free.0.0)))) (reaches_more a b r.steps B);
    size = length-set g b (at g b + 1) ∙ r.size;
  }

  pub reached_end : {g : List ℕ} {count whole : ℕ} → Reached g count → Stuck D (at g) → Flag (Whole D (at g)) whole → Finished D count whole g
  reached_end r s f = record { reached = r.steps; stuck = s; size = r.size; flagged = f }
