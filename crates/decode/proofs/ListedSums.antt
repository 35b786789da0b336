-- A sum over the sources, of which only the missing ones count, is the sum over those listed. Assumes nothing.
use mathlib.Core.Path.{◌≡◌, refl, sym, ap, ap₂, ◌∙◌}
use mathlib.Core.Logic.{◌≢◌}
use mathlib.Core.Bool.{Bool, true, false, true≢false}
use mathlib.Core.List.{List}
use Prim.Native.Nat.{ℕ, zero, suc, ◌+◌, ◌≤◌, ◌<◌}
use native.Mathlib.Omega.{arith}
use native.Mathlib.Decide.{ℕ_discrete, dec_lt}
use Rattle.bits.specs.Sums.{at, sum}
use Rattle.table.specs.Desk.{Desk}
use Rattle.walk.specs.Walk.{Gone}
use Rattle.plan.specs.Plan.{Listed}

module _ (D : Desk) (columns : List ℕ) (n : ℕ) (L : Listed (Gone D) columns n) (f : ℕ → ℕ) (none : (c : ℕ) → D.present c ≡ true → f c ≡ 0) where
  open D use {k, present}

  -- the missing sources below c are the first j that are listed
  record FirstBelow (c j : ℕ) : Type 0 where
    few : j ≤ n
    to : (i : ℕ) → i < n → at columns i < c → i < j
    from : (i : ℕ) → i < j → at columns i < c

  -- where source c is present, and where it is missing
  below_present : (c j : ℕ) → present c ≡ true → FirstBelow (suc c) j → FirstBelow c j
  below_present c j e F = record {
    few = F.few;
    to = λ i li l. F.to i li (omega arith);
    from = λ i li.
        let other : at columns i ≢ c = λ q. true≢false (sym e ∙ sym (ap present q) ∙ (L.inside i (omega (arith, F.few))).1) in
        omega (arith, F.from i li, other);
  }

  below_gone : (c j : ℕ) → Gone D c → FirstBelow (suc c) j → (h : ℕ) × (at columns h ≡ c) × (suc h ≡ j) × FirstBelow c h
  below_gone c j G F = (h, is, last, record { few = omega (arith, x.1); to = to; from = λ i li. omega (arith, L.rising i h li x.1, is) })
    where
      x : (i : ℕ) × (i < n) × (at columns i ≡ c)
      x = L.every c G

      h : ℕ
      h = x.0

      is : at columns h ≡ c
      is = x.2

      last : suc h ≡ j
      last = elim (dec_lt (suc h) j) [
        | yes l ↦ absurd (omega (arith, F.from (suc h) l, F.few, L.rising h (suc h) (omega arith) (omega (arith, F.few)), is))
        | no l ↦ omega (arith, F.to h x.1 (omega (arith, is)))
      ]

      to : (i : ℕ) → i < n → at columns i < c → i < h
      to i li l = elim (ℕ_discrete i h) [
        | yes e ↦ absurd (omega (arith, is, ap (at columns) e))
        | no e ↦ omega (arith, F.to i li (omega arith), last)
      ]

  sum_below : (c j : ℕ) → c ≤ k → FirstBelow c j → sum c f ≡ sum j (λ i. f (at columns i))
  unfolding sum
  sum_below zero zero l F = refl
  sum_below zero (suc j) l F = absurd (omega (arith, F.from j (omega arith)))
  sum_below (suc c) j l F = go (present c) refl (λ j. sum_below c j (omega arith))
    where
      go : (v : Bool) → present c ≡ v → ((j : ℕ) → FirstBelow c j → sum c f ≡ sum j (λ i. f (at columns i))) → sum (suc c) f ≡ sum j (λ i. f (at columns i))
      go true e before = omega (arith, before j (below_present c j e F), none c e)
      go false e before =
          let x = below_gone c j (l, e) F in
          ap₂ ◌+◌ (before x.0 x.3) (ap f (sym x.1)) ∙ ap (λ z. sum z (λ i. f (at columns i))) x.2

  pub listed_sum : sum k f ≡ sum n (λ i. f (at columns i))
  listed_sum = sum_below k n (omega arith) record { few = omega arith; to = λ i li l. li; from = λ i li. (L.inside i li).0 }
