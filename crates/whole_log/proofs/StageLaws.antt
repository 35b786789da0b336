-- Laws of the stages of rebuild log: no source missing, what refuses first, what is left, and a stall. Assumes nothing.
use mathlib.Core.Path.{◌≡◌, refl, sym, ap, ◌∙◌, subst}
use mathlib.Core.Logic.{inl, inr}
use mathlib.Core.Bool.{Bool, true, false}
use mathlib.Core.List.{List, ◌++◌}
use Prim.Native.Nat.{ℕ, ◌+◌, ◌<◌}
use native.Mathlib.Omega.{arith}
use Rattle.std.specs.Prelude.{Result, Ok, Err, IsErrAnd}
use Rattle.bits.specs.Sums.{at, count}
use Rattle.table.specs.Desk.{Desk, mark}
use Rattle.table.specs.Desks.{Ready, desk_of}
use Rattle.table.specs.declared.desks.Desk as laid
use Rattle.table.specs.declared.refusals.Refusal.{Refusal}
use Rattle.table.specs.Refusals.{number_of}
use Rattle.table.specs.Checks.{Checks, Checked, stripes_checks}
use Rattle.table.proofs.CheckLaws.{Numbered, stops, goes, Below, checked_below}
use Rattle.table.proofs.RefusalLaws.{numbered}
use Rattle.table.proofs.MarkLaws.{no_mark_above}
use Rattle.walk.proofs.Ends.{finishes_ended}
use Rattle.search.specs.Search.{AllMissing}
use Rattle.rebuild.proofs.AnswerLaws.{untold}
use Rattle.rebuild.proofs.NoneMissing.{sources_alone}
use Rattle.lanes.specs.Lanes.{LanesRead}
use Rattle.stripe.specs.Alone.{SourcesAlone}
use Rattle.stripe.specs.declared.BadLog.{BadLog}
use Rattle.stripe.specs.Parts.{log_number, log_good, log_count}
use Rattle.stripe.specs.Stripes.{AtStripe, GoodWritten, LogAnswered, log_decode_checks}

-- a number that tells neither steps nor stripes
abbrev pub Early : ℕ → Type 0
Early n = (n ≡ 8 → ⊥) × (AtStripe n → ⊥)

pub low_early : (n : ℕ) → n < 8 → Early n
low_early n l = ((λ e. omega arith), λ a. elim a [ inl e ↦ omega arith | inr e ↦ omega arith ])

-- so the number of checks that are all below 8
pub checks_early : (cs : Checks) (n : ℕ) → Below 8 cs → Checked cs n → Early n
checks_early cs n low c = low_early n (checked_below 8 cs n (omega arith) low c)

pub stripes_early : (stripes n : ℕ) → Checked (stripes_checks stripes) n → Early n
stripes_early stripes n (inl c) = let e = c.1 in ((λ f. omega arith), λ a. elim a [ inl f ↦ omega arith | inr f ↦ omega arith ])
stripes_early stripes n (inr c) = let e = c.1 in low_early n (omega arith)

-- where exactly k packets are at hand and none is listed as missing, they are the sources
pub alone_by_marks : (d : laid.Desk) (columns : List ℕ) (n : ℕ) → Ready d → count (d.k + d.m) (mark d.marks) ≡ d.k → AllMissing d.k d.marks columns n → n ≡ 0 → SourcesAlone (desk_of d)
alone_by_marks d columns n R exactly L z = record {
  here = here;
  no_parity = sources_alone d.k d.m d.marks here exactly (λ i l e. no_mark_above (d.k + d.m) d.marks R i l e);
}
  where
    here : (c : ℕ) → c < d.k → mark d.marks c ≡ true
    here c l = L.first c (omega arith) (omega (arith, l, ap (at columns) (sym z) ∙ L.last))

module _ (D : Desk) (stripes : ℕ) (packets before : List ℕ) where
  -- with no good stripe the output is as it was
  pub none_written : (good : ℕ) → good ≡ 0 → GoodWritten D stripes packets good before before
  none_written good z = record { size = refl; sources = λ t l. absurd (omega arith); kept = refl }

  -- the first checks refuse
  pub log_stops : (cs ds : Checks) (r : Refusal) (x : Result ℕ BadLog) → Checked cs (number_of r) → Early (number_of r) → IsErrAnd x (λ bad. (bad.refusal ≡ r) × (bad.good ≡ 0) × (bad.count ≡ 0))
      → LogAnswered D stripes packets (cs ++ ds) before (log_number x) (log_good stripes x) (log_count x) before
  log_stops cs ds r (Ok n) c early h = absurd h
  log_stops cs ds r (Err bad) c early (e, g, z) =
      let n = number_of bad.refusal in
      let is : n ≡ number_of r = ap number_of e in record {
        numbered = stops cs ds n (subst (Checked cs) (sym is) c) (numbered bad.refusal);
        told = record { all = λ y. absurd (numbered bad.refusal y); up_to = λ a. absurd (early.1 (subst AtStripe is a)); none = λ _ _. g };
        steps = record { finish = λ y. absurd (numbered bad.refusal y); told = λ _. untold D n bad.count (λ y. early.0 (sym is ∙ y)) z };
        written = none_written bad.good g;
      }

  -- the first checks do not refuse, and those that are left are answered
  pub log_goes : (cs ds : Checks) (number good count : ℕ) (after : List ℕ) → Numbered cs → Checked cs 0
      → LogAnswered D stripes packets ds before number good count after → LogAnswered D stripes packets (cs ++ ds) before number good count after
  log_goes cs ds number good count after p c A = record { numbered = goes cs ds number p c A.numbered; told = A.told; steps = A.steps; written = A.written }

  -- 8: the steps made
  pub stalled : (count : ℕ) (whole : Bool) (lanes : List ℕ) → LanesRead D packets stripes count whole lanes → whole ≡ false
      → LogAnswered D stripes packets (log_decode_checks D stripes packets) before 8 0 count before
  stalled count whole lanes L w = record {
    numbered = inl ((λ n F. L.full.not_so w (finishes_ended D count n L.ended F)), refl);
    told = record { all = λ z. absurd (omega arith); up_to = λ a. absurd (elim a [ inl e ↦ omega arith | inr e ↦ omega arith ]); none = λ _ _. refl };
    steps = record { finish = λ z. absurd (omega arith); told = λ _. ((λ _. L.ended), λ n. absurd (n refl)) };
    written = none_written 0 refl;
  }

-- what holds of the parts of a log holds of those that it was made of
pub of_parts : {d d' : laid.Desk} {n n' : ℕ} {xs xs' : List ℕ} → (d ≡ d') × (n ≡ n') × (xs ≡ xs') → (P : laid.Desk → ℕ → List ℕ → Type 0) → P d n xs → P d' n' xs'
of_parts {d} {d'} {n} {n'} {xs} {xs'} (e, f, g) P x = subst (λ z. P z n' xs') e (subst (λ z. P d z xs') f (subst (P d n) g x))
