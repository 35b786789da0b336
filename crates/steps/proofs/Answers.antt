-- The answer of an accepted shape's check of steps, computed, and that it meets the promise: for examples. Assumes nothing.
use mathlib.Core.Path.{◌≡◌, refl, sym, ap, ◌∙◌, subst}
use mathlib.Core.Logic.{inl, inr}
use mathlib.Core.Bool.{Bool, true, false, ◌&&◌, true≢false, and-eq-true_iff}
use mathlib.Core.List.{List, ◌++◌}
use Prim.Native.Nat.{ℕ, zero, suc, ◌+◌, ◌-◌, ◌≤◌}
use native.Mathlib.Omega.{arith}
use lib.Dec.{eqb, leb}
use lib.ListN.{length, set, length-set}
use borrow.Author.Tests.{leb-true, le-leb, eqb-true, eqb-false, eq-eqb}
use Rattle.bits.specs.Sums.{at, pick}
use Rattle.table.specs.Limits.{max_k, noughts}
use Rattle.table.specs.Desk.{Desk, desk}
use Rattle.table.specs.Checks.{Checked, marked_checks}
use Rattle.table.proofs.CheckLaws.{numbered_by}
use Rattle.table.proofs.AnswerLaws.{answer_goes, answer_stops}
use Rattle.table.proofs.ShapeLaws.{shaped, marked_parts}
use Rattle.walk.specs.Compute.{source_of, whole_b}
use Rattle.walk.proofs.Computed.{at-bump, whole_of, of_whole}
use Rattle.steps.specs.Steps.{BareStep, Led}
use Rattle.steps.specs.Promise.{unequal_checks, follow_checks, Followed, StepsChecked}
use Rattle.steps.proofs.StepLaws.{found_bare, bare_found, bare_names_parity, bare_names_source, led_fits}
use Rattle.steps.proofs.StepLaws.{Following, following_none, following_more, told_nowhere, follow_bad, follow_whole, follow_early}

module _ (D : Desk) (g : ℕ → ℕ) (parity source : ℕ) where
  open D use {k, m}

  -- whether two entries are bare
  unfoldable pub bare_b : Bool
  bare_b = leb 1 parity && (leb parity m && (leb 1 source && (leb source k && eqb (source_of D g (parity - 1)) (source - 1))))

  told_bare : bare_b ≡ true → BareStep D g parity source
  unfolding bare_b
  told_bare e =
      let p = (and-eq-true_iff _ _).0 e in
      let q = (and-eq-true_iff _ _).0 p.1 in
      let r = (and-eq-true_iff _ _).0 q.1 in
      let s = (and-eq-true_iff _ _).0 r.1 in
      found_bare D g parity source (leb-true 1 parity p.0, leb-true parity m q.0) (leb-true 1 source r.0, leb-true source k s.0) (eqb-true _ _ s.1)

  bare_told : BareStep D g parity source → bare_b ≡ true
  unfolding bare_b
  bare_told B =
      let p = bare_names_parity D g parity source B in
      let s = bare_names_source D g parity source B in
      rw (le-leb 1 parity p.0, le-leb parity m p.1, le-leb 1 source s.0, le-leb source k s.1) (eq-eqb _ _ (bare_found D g parity source B))

module _ (D : Desk) (parities sources : List ℕ) where
  -- the number and the place, from step i on at progress g, with so many steps left
  unfoldable pub follow_from : ℕ → ℕ → List ℕ → ℕ × ℕ
  follow_from zero i g = pick (whole_b D (at g)) (0, 0) (24, i)
  follow_from (suc left) i g = elim (bare_b D (at g) (at parities i) (at sources i)) [
    | true ↦ let b = at sources i - 1 in follow_from left (i + 1) (set g b (at g b + 1))
    | false ↦ (23, i + 1)
  ]

  -- those of the whole list
  unfoldable pub checked_of : ℕ × ℕ
  checked_of = pick (eqb (length parities) (length sources)) (follow_from (length parities) 0 noughts) (22, 0)

  abbrev Answer : ℕ × ℕ → Type 0
  Answer r = Followed D parities sources r.0 r.1

  module _ (few : D.k ≤ max_k) (as_long : length parities ≡ length sources) where
    ended : (i : ℕ) (g : List ℕ) → i ≡ length parities → Following D parities sources i g → (v : Bool) → whole_b D (at g) ≡ v → Answer (pick v (0, 0) (24, i))
    ended i g e F v w = go v w
      where
        L : Led D parities sources (length parities) (at g)
        L = subst (λ (n : ℕ). Led D parities sources n (at g)) e F.led

        go : (v : Bool) → whole_b D (at g) ≡ v → Answer (pick v (0, 0) (24, i))
        go true w = follow_whole D parities sources L as_long 0 0 refl refl (whole_of D (at g) (led_fits D parities sources L) w)
        go false w = follow_early D parities sources L 24 i refl e (λ x. true≢false (sym (of_whole D (at g) x) ∙ w))

    follows : (left i : ℕ) (g : List ℕ) → left + i ≡ length parities → Following D parities sources i g → Answer (follow_from left i g)
    unfolding follow_from
    follows zero i g e F = ended i g (omega (arith, e)) F (whole_b D (at g)) refl
    follows (suc left) i g e F = go (bare_b D (at g) (at parities i) (at sources i)) refl (follows left)
      where
        go : (v : Bool)
            → bare_b D (at g) (at parities i) (at sources i) ≡ v
            → ((j : ℕ) (h : List ℕ) → left + j ≡ length parities → Following D parities sources j h → Answer (follow_from left j h))
            → Answer (follow_from (suc left) i g)
        go false w ih =
            rw (w, follow_from) (follow_bad D parities sources i 23 (i + 1) refl refl (omega arith) F.led (λ B. true≢false (sym (bare_told D (at g) (at parities i) (at sources i) B) ∙ w)))
        go true w ih =
            let B = told_bare D (at g) (at parities i) (at sources i) w in
            let b = at sources i - 1 in
            let raised = at-bump g b (omega (arith, F.size, B.source_is, B.bare.free.0.0)) in
            let more = following_more D parities sources F (omega arith) (omega arith) B (set g b (at g b + 1)) (length-set g b (at g b + 1) ∙ F.size) (λ q. ap (λ (f : ℕ → ℕ). f q) raised) in
            rw (w, follow_from) (ih (i + 1) (set g b (at g b + 1)) (omega arith) more)

-- where the shape and the marks are accepted, the computed answer meets the promise
pub checked_meets : (k m l : ℕ) (table : List ℕ) (marks : ℕ) (parities sources : List ℕ)
    → Checked (marked_checks k m l table marks) 0
    → let r = checked_of (desk k m l table marks) parities sources in
    StepsChecked k m l table marks parities sources r.0 r.1
unfolding checked_of
checked_meets k m l table marks parities sources c = go (eqb (length parities) (length sources)) refl
  where
    D : Desk
    D = desk k m l table marks

    few : k ≤ max_k
    few = (shaped k m l table (marked_parts k m l table marks c).0).k_high

    go : (v : Bool) → eqb (length parities) (length sources) ≡ v
        → let r = pick v (follow_from D parities sources (length parities) 0 noughts) (22, 0) in
        StepsChecked k m l table marks parities sources r.0 r.1
    go true e =
        let as_long = eqb-true (length parities) (length sources) e in
        let lists = unequal_checks parities sources in
        let cs = marked_checks k m l table marks in
        let steps = follow_checks D parities sources in
        let follow = follows D parities sources few as_long (length parities) 0 noughts (omega arith) (following_none D parities sources) in
        answer_goes cs (lists ++ steps) _ (numbered_by cs refl) c (answer_goes lists steps _ (numbered_by lists refl) (inr ((λ n. n as_long), refl)) follow)
    go false e =
        let lists = unequal_checks parities sources in
        let cs = marked_checks k m l table marks in
        let steps = follow_checks D parities sources in
        answer_goes cs (lists ++ steps) 22 (numbered_by cs refl) c
        (answer_stops lists steps 22 22 (inl (eqb-false (length parities) (length sources) e, refl)) (λ z. omega arith) refl (told_nowhere D parities sources 22 0 (omega arith) refl))
