-- Where the orders of steps end: there is an end, it is one, and it tells whether any order finishes. Assumes nothing.
use mathlib.Core.Path.{◌≡◌, refl, sym, ◌∙◌, subst}
use mathlib.Core.Logic.{◌⊎◌, inl, inr}
use mathlib.Core.Bool.{Bool, true, false, true≢false}
use mathlib.Core.List.{List}
use Prim.Native.Nat.{ℕ, zero, suc, ◌+◌, ◌≤◌}
use native.Mathlib.Omega.{arith}
use native.Mathlib.Decide.{dec_lt}
use lib.ListN.{length}
use Rattle.bits.specs.Sums.{at}
use Rattle.table.specs.Desk.{Desk}
use Rattle.table.specs.Checks.{Checked}
use Rattle.table.proofs.CheckLaws.{numbered_by, zero_passes}
use Rattle.walk.specs.Walk.{Order, bump, Stuck, Run, Whole}
use Rattle.walk.specs.Ends.{Reaches, Ended, Finishes, stall_checks}
use Rattle.walk.specs.Compute.{source_of, parity_of, whole_b}
use Rattle.walk.specs.Promise.{Finished}
use Rattle.walk.proofs.Runs.{same_end, bump_fits}
use Rattle.walk.proofs.Totals.{total, all, total_step, total-all}
use Rattle.walk.proofs.Computed.{pair_bare, no_pair, whole_of, of_whole}
use Rattle.walk.proofs.Reached.{run_reaches, reaches_none, reaches_more, reaches_fits}

module _ (D : Desk) where
  open D use {m}

  ends_within : (f n : ℕ) (g : ℕ → ℕ) → Reaches D n g → all D ≤ total D g + f → (n' : ℕ) × Ended D n'
  ends_within zero n g r fuel = (
    n,
    record {
      end = g;
      reached = r;
      stuck = λ a b B. omega (arith, total_step D g b B.free.0, total-all D (bump g b) (bump_fits D g a b B (reaches_fits D r)));
    },
  )
  ends_within (suc f) n g r fuel = elim (dec_lt (parity_of D g) m) [
    | no h ↦ (n, record { end = g; reached = r; stuck = no_pair D g (omega arith) })
    | yes l ↦
        let B = pair_bare D g l in
        ends_within f (n + 1) (bump g (source_of D g (parity_of D g))) (reaches_more D _ _ r B) (omega (arith, total_step D g _ B.free.0))
  ]

  -- some order runs to its end
  pub some_end : (n : ℕ) × Ended D n
  some_end = ends_within (all D) 0 (λ c. 0) (reaches_none D) (omega arith)

  -- all orders that run to their end have the same end and the same count
  pub one_end : (n n' : ℕ) (E : Ended D n) (F : Ended D n') → E.end ≡ F.end
  one_end n n' E F = (same_end D E.reached.run E.stuck F.reached.run F.stuck).1

  pub one_count : (n n' : ℕ) → Ended D n → Ended D n' → n ≡ n'
  one_count n n' E F = E.reached.counted ∙ (same_end D E.reached.run E.stuck F.reached.run F.stuck).0 ∙ sym F.reached.counted

  pub whole_stuck : (g : ℕ → ℕ) → Whole D g → Stuck D g
  whole_stuck g w a b B = omega (arith, B.free.1, w b B.free.0)

  -- an order that finishes has run to its end
  abbrev pub finishes_ends : (n : ℕ) → Finishes D n → Ended D n
  finishes_ends n F = record { end = F.end; reached = F.reached; stuck = whole_stuck F.end F.whole }

  -- if some order finishes, every order that is run to its end does
  pub finishes_ended : (n n' : ℕ) (E : Ended D n) → Finishes D n' → Whole D E.end
  finishes_ended n n' E F = subst (Whole D) (one_end n' n (finishes_ends n' F) E) F.whole

  abbrev pub ended_finishes : (n : ℕ) (E : Ended D n) → Whole D E.end → Finishes D n
  ended_finishes n E w = record { end = E.end; reached = E.reached; whole = w }

  abbrev pub whole_finishes : {o : Order} {h : ℕ → ℕ} → Run D (λ c. 0) o h → Whole D h → Finishes D (length o)
  whole_finishes {h = h} u w = record { end = h; reached = run_reaches D u; whole = w }

  -- so none does where one end is not whole
  pub none_finishes : (n : ℕ) (E : Ended D n) → (Whole D E.end → ⊥) → (n' : ℕ) → Finishes D n' → ⊥
  none_finishes n E not_whole n' F = not_whole (finishes_ended n n' E F)

  -- a finished walk has run to its end
  abbrev pub finished_ended : {count whole : ℕ} {progress : List ℕ} → Finished D count whole progress → Ended D count
  finished_ended {progress = progress} f = record { end = at progress; reached = f.reached; stuck = f.stuck }

  -- some order finishes, or none does: that end tells
  pub finishes_or_not : ((n : ℕ) × Finishes D n) ⊎ ((n : ℕ) → Finishes D n → ⊥)
  finishes_or_not = go (whole_b D E.1.end) refl
    where
      E : (n : ℕ) × Ended D n
      E = some_end

      go : (v : Bool) → whole_b D E.1.end ≡ v → ((n : ℕ) × Finishes D n) ⊎ ((n : ℕ) → Finishes D n → ⊥)
      go true e = inl (E.0, ended_finishes E.0 E.1 (whole_of D E.1.end (reaches_fits D E.1.reached) e))
      go false e = inr (none_finishes E.0 E.1 (λ w. true≢false (sym (of_whole D E.1.end w) ∙ e)))

  pub some_finishes : (((n : ℕ) → Finishes D n → ⊥) → ⊥) → (n : ℕ) × Finishes D n
  some_finishes h = go finishes_or_not
    where
      go : ((n : ℕ) × Finishes D n) ⊎ ((n : ℕ) → Finishes D n → ⊥) → (n : ℕ) × Finishes D n
      go (inl x) = x
      go (inr x) = absurd (h x)

  -- not refused with 8, some order finishes
  pub not_stalled : Checked (stall_checks D) 0 → (n : ℕ) × Finishes D n
  not_stalled c = some_finishes (zero_passes (stall_checks D) (numbered_by (stall_checks D) refl) c).0
