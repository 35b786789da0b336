-- Laws of good and bad stripes: a bad one is not good, there is one first bad one, and from these to the numbers 8, 9 and 10. Assumes nothing.
use mathlib.Core.Path.{◌≡◌, refl, sym, subst}
use mathlib.Core.Logic.{◌⊎◌, inl, inr}
use mathlib.Core.List.{List}
use Prim.Native.Nat.{ℕ, ◌<◌}
use native.Mathlib.Omega.{arith}
use native.Mathlib.Decide.{ℕ_discrete, dec_lt}
use Rattle.table.specs.Desk.{Desk}
use Rattle.table.specs.Checks.{Checked}
use Rattle.table.proofs.CheckLaws.{checked_once}
use Rattle.walk.specs.Ends.{Finishes}
use Rattle.survivors.specs.Packets.{packets_checks, stripe}
use Rattle.stripe.specs.Stripes.{AtStripe, Good, BadAt, FirstBad, log_decode_checks}

-- 9 and 10 are neither 0 nor 8
pub at-stripe_some : {n : ℕ} → AtStripe n → n ≡ 0 → ⊥
at-stripe_some (inl e) z = omega arith
at-stripe_some (inr e) z = omega arith

pub at-stripe_not_eight : {n : ℕ} → AtStripe n → n ≡ 8 → ⊥
at-stripe_not_eight (inl e) z = omega arith
at-stripe_not_eight (inr e) z = omega arith

-- a number is 0, or 9 or 10, or another
pub at-stripe_or_not : (n : ℕ) → (n ≡ 0) ⊎ (AtStripe n ⊎ ((n ≡ 0 → ⊥) × (AtStripe n → ⊥)))
at-stripe_or_not n = elim (ℕ_discrete n 0) [
  | yes z ↦ inl z
  | no nz ↦ elim (ℕ_discrete n 9) [
    | yes e ↦ inr (inl (inl e))
    | no n9 ↦ elim (ℕ_discrete n 10) [ yes e ↦ inr (inl (inr e)) | no n10 ↦ inr (inr (nz, neither n9 n10)) ]
  ]
]
  where
    neither : (n ≡ 9 → ⊥) → (n ≡ 10 → ⊥) → AtStripe n → ⊥
    neither f g (inl e) = f e
    neither f g (inr e) = g e

module _ (D : Desk) (stripes : ℕ) (packets : List ℕ) where
  -- a good stripe gets no number of its own,
  pub good_checked : (t : ℕ) → Good D stripes packets t → Checked (packets_checks D (stripe D packets t)) 0
  good_checked t g = inr (g.tidy, inr ((λ none. none g.some.0 g.some.1), refl))

  -- so one that gets one is not good
  pub bad_not_good : (n t : ℕ) → (n ≡ 0 → ⊥) → Checked (packets_checks D (stripe D packets t)) n → Good D stripes packets t → ⊥
  bad_not_good n t some c g = some (checked_once (packets_checks D (stripe D packets t)) n 0 c (good_checked t g))

  -- the first bad stripe and its number are one
  pub one_bad_place : (n n' t t' : ℕ) → (n ≡ 0 → ⊥) → (n' ≡ 0 → ⊥) → BadAt D stripes packets n t → BadAt D stripes packets n' t' → t ≡ t'
  one_bad_place n n' t t' some some' B B' = elim (dec_lt t t') [
    | yes l ↦ absurd (bad_not_good n t some B.own (B'.before t l))
    | no ge ↦ elim (dec_lt t' t) [
      | yes l ↦ absurd (bad_not_good n' t' some' B'.own (B.before t' l))
      | no le ↦ omega arith
    ]
  ]

  pub one_bad_number : (n n' t t' : ℕ) → (n ≡ 0 → ⊥) → (n' ≡ 0 → ⊥) → BadAt D stripes packets n t → BadAt D stripes packets n' t' → n ≡ n'
  one_bad_number n n' t t' some some' B B' =
      let own : Checked (packets_checks D (stripe D packets t)) n' = subst (λ u. Checked (packets_checks D (stripe D packets u)) n') (sym (one_bad_place n n' t t' some some' B B')) B'.own in
      checked_once (packets_checks D (stripe D packets t)) n n' B.own own

  -- where the first bad stripe gets n, it gets no other number
  pub no_other_bad : (n n' t : ℕ) → (n ≡ 0 → ⊥) → (n' ≡ 0 → ⊥) → (n ≡ n' → ⊥) → BadAt D stripes packets n t → FirstBad D stripes packets n' → ⊥
  no_other_bad n n' t some some' other B (t', B') = other (one_bad_number n n' t t' some some' B B')

  -- where all stripes are good, none is the first bad one
  pub none_bad : (n : ℕ) → (n ≡ 0 → ⊥) → ((t : ℕ) → t < stripes → Good D stripes packets t) → FirstBad D stripes packets n → ⊥
  none_bad n some all (t, B) = bad_not_good n t some B.own (all t B.inside)

  module _ (count : ℕ) (F : Finishes D count) where
    -- 9 and 10 go by the first bad stripe; with none, 0
    pub bad_numbered : (n t : ℕ) → AtStripe n → BadAt D stripes packets n t → Checked (log_decode_checks D stripes packets) n
    bad_numbered n t (inl e) B = inr ((λ never. never count F), inl ((t, subst (λ i. BadAt D stripes packets i t) e B), e))
    bad_numbered n t (inr e) B =
        inr ((λ never. never count F), inr (no_other_bad n 9 t (λ z. omega arith) (λ z. omega arith) (λ z. omega arith) B, inl ((t, subst (λ i. BadAt D stripes packets i t) e B), e)))

    pub good_numbered : ((t : ℕ) → t < stripes → Good D stripes packets t) → Checked (log_decode_checks D stripes packets) 0
    good_numbered all = inr ((λ never. never count F), inr (none_bad 9 (λ z. omega arith) all, inr (none_bad 10 (λ z. omega arith) all, refl)))
