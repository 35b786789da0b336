-- The search of a row for the missing source whose next bit stands alone lowest. Assumes nothing.
use mathlib.Core.Path.{◌≡◌, refl, sym, ◌∙◌, subst}
use mathlib.Core.Logic.{◌≢◌}
use mathlib.Core.Bool.{true, true≢false}
use Rattle.std.specs.Prelude.{Option, Some, None, MatchOption}
use Prim.Native.Nat.{ℕ, ◌+◌, ◌≤◌, ◌<◌}
use native.Mathlib.Omega.{arith}
use native.Mathlib.Nat.{le_refl, le_of_lt}
use native.Mathlib.Decide.{ℕ_discrete, dec_lt}
use Rattle.table.specs.Desk.{Desk}
use Rattle.walk.specs.Walk.{Free, Bare, Stuck}
use Rattle.walk.specs.Compute.{source_of, parity_of}
use Rattle.walk.specs.declared.Pair.{Pair}
use Rattle.walk.proofs.Computed.{found_bare, no_pair}
use Rattle.search.specs.Search.{Leading, Leads}

-- what holds below b, and of b, holds below b + 1
each : (P : ℕ → Type 0) (b : ℕ) → ((c : ℕ) → c < b → P c) → P b → (c : ℕ) → c < b + 1 → P c
each P b old new c l = elim (ℕ_discrete b c) [
  | yes e ↦ subst P e new
  | no ne ↦ old c (omega arith)
]

module _ (D : Desk) (g : ℕ → ℕ) (a : ℕ) where
  open D use {k, bits, shift, present}

  -- sources that are present are passed over
  pub leading_to : (n r low source : ℕ) → ((c : ℕ) → n ≤ c → c < r → present c ≡ true) → Leading D g a n low source → Leading D g a r low source
  leading_to n r low source h L = record {
    under = λ c l f. L.under c (below c l f) f;
    leads = λ q. let w = L.leads q in (w.0, w.1, λ c l ne f. w.2 c (below c l f) ne f);
  }
    where
      below : (c : ℕ) → c < r → Free D g c → c < n
      below c l f = elim (dec_lt c n) [
        | yes q ↦ q
        | no q ↦ absurd (true≢false (sym (h c (omega arith) l) ∙ f.0.1))
      ]

  pub leading_none : (r low : ℕ) → ((c : ℕ) → 0 ≤ c → c < r → present c ≡ true) → Leading D g a r low k
  leading_none r low h = leading_to 0 r low k h record { under = λ c l f. absurd (omega arith); leads = λ q. absurd (omega arith) }

  -- one source more
  module _ (b low source : ℕ) (L : Leading D g a b low source) where
    -- it is finished, or its next bit stands higher
    pub leading_over : (Free D g b → low < shift a b + g b) → Leading D g a (b + 1) low source
    leading_over h = record {
      under = each (λ c. Free D g c → low ≤ shift a c + g c) b L.under (λ f. le_of_lt (h f));
      leads = λ q. let w = L.leads q in (w.0, w.1, each (λ c. source ≢ c → Free D g c → low < shift a c + g c) b w.2 (λ _ f. h f));
    }

    pub leading_under : Free D g b → shift a b + g b < low → Leading D g a (b + 1) (shift a b + g b) b
    leading_under fb l = record {
      under = each (λ c. Free D g c → shift a b + g b ≤ shift a c + g c) b (λ c q f. omega (arith, L.under c q f)) (λ f. le_refl _);
      leads = λ q. (fb, refl, each (λ c. b ≢ c → Free D g c → shift a b + g b < shift a c + g c) b (λ c q ne f. omega (arith, L.under c q f)) (λ ne f. absurd (ne refl)));
    }

    pub leading_level : low ≡ shift a b + g b → Leading D g a (b + 1) low k
    leading_level e = record { under = each (λ c. Free D g c → low ≤ shift a c + g c) b L.under (λ f. omega arith); leads = λ q. absurd (omega arith) }

  -- all sources were looked at
  pub leading_all : (n low source : ℕ) → n ≡ k → Leading D g a n low source → source < k → Leads D g a source
  leading_all n low source e L q = let w = L.leads q in (w.0, λ c ne f. omega (arith, w.1, w.2 c (omega (arith, f.0.0)) ne f))

-- what the walk's own search finds is bare, and where it finds none none is
pub found_or_stuck : (D : Desk) (g : ℕ → ℕ) (r : Option Pair)
    → MatchOption r (parity_of D g ≡ D.m) (λ p. (p.parity < D.m) × (p.parity ≡ parity_of D g) × (p.source ≡ source_of D g p.parity))
    → MatchOption r (Stuck D g) (λ p. Bare D g p.parity p.source)
found_or_stuck D g None e = no_pair D g (omega (arith, e))
found_or_stuck D g (Some p) h = found_bare D g p.parity p.source h.0 h.1 h.2
