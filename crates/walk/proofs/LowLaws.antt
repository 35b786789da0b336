-- The lowest next bit as the code keeps it, from one source to the next. Assumes nothing.
use mathlib.Core.Path.{◌≡◌, refl, sym, ap, ◌∙◌}
use mathlib.Core.Logic.{◌≢◌}
use mathlib.Core.Bool.{true}
use Prim.Native.Nat.{ℕ, ◌+◌, ◌≤◌, ◌<◌}
use native.Mathlib.Omega.{arith}
use Rattle.std.specs.Prelude.{Option, Some, None, MatchOption}
use Rattle.table.specs.Desk.{Desk}
use Rattle.walk.specs.Compute.{placed_of, scan, source_of}
use Rattle.walk.specs.Lows.{no_place, Lows, nobody, alone, shared, LowsApart}
use Rattle.walk.proofs.Scan.{placed_first, placed_under, placed_level, placed_over, source-held}

module _ (k place : ℕ) (source : Option ℕ) (p b : ℕ) (lp : p < no_place) (s : ℕ × ℕ) where
  -- a bit that stands lower, at the same place, or higher
  pub kept_under : b < k → p < place → Lows k place source s → Lows k p (Some b) (placed_of k s p b)
  kept_under lb l (nobody n e f) = alone b refl lb (sym (placed_first k s p b f))
  kept_under lb l (alone c n lc e) = alone b refl lb (sym (placed_under k s p b (omega (arith, l, ap (λ (y : ℕ × ℕ). y.0) e))))
  kept_under lb l (shared n e) = alone b refl lb (sym (placed_under k s p b (omega (arith, l, ap (λ (y : ℕ × ℕ). y.0) e))))

  pub kept_level : p ≡ place → Lows k place source s → Lows k p None (placed_of k s p b)
  kept_level l (nobody n e f) = absurd (omega (arith, l, e, lp))
  kept_level l (alone c n lc e) = shared refl (sym (placed_level k s p b (λ z. omega (arith, z, lc, ap (λ (y : ℕ × ℕ). y.1) e)) (omega (arith, l, ap (λ (y : ℕ × ℕ). y.0) e))))
  kept_level l (shared n e) = shared refl (sym (placed_level k s p b (λ z. omega (arith, z, ap (λ (y : ℕ × ℕ). y.1) e)) (omega (arith, l, ap (λ (y : ℕ × ℕ). y.0) e))))

  pub kept_over : place < p → Lows k place source s → Lows k place source (placed_of k s p b)
  kept_over l (nobody n e f) = absurd (omega (arith, l, e, lp))
  kept_over l (alone c n lc e) = alone c n lc (sym (placed_over k s p b (λ z. omega (arith, z, lc, ap (λ (y : ℕ × ℕ). y.1) e)) (omega (arith, l, ap (λ (y : ℕ × ℕ). y.0) e))) ∙ e)
  kept_over l (shared n e) = shared n (sym (placed_over k s p b (λ z. omega (arith, z, ap (λ (y : ℕ × ℕ). y.1) e)) (omega (arith, l, ap (λ (y : ℕ × ℕ). y.0) e))) ∙ e)

  -- and the place still tells why it is nobody's
  pub apart_under : b < k → p < place → LowsApart k place source s → LowsApart k p (Some b) (placed_of k s p b)
  apart_under lb l L = record { lows = kept_under lb l L.lows; below = λ _ _. lp }

  pub apart_level : p ≡ place → LowsApart k place source s → LowsApart k p None (placed_of k s p b)
  apart_level l L = record { lows = kept_level l L.lows; below = λ _ _. lp }

  pub apart_over : place < p → LowsApart k place source s → LowsApart k place source (placed_of k s p b)
  apart_over l L = record { lows = kept_over l L.lows; below = λ _ _. omega arith }

module _ (D : Desk) (g : ℕ → ℕ) (a : ℕ) where
  open D use {k, present}

  -- past all sources of a parity at hand: whose it is
  pub kept_found : (n place : ℕ) (source : Option ℕ) → n ≡ k → present (k + a) ≡ true → Lows k place source (scan D g a n)
      → MatchOption source (k ≤ source_of D g a) (λ b. (b < k) × (b ≡ source_of D g a))
  kept_found n place source e held L = go L
    where
      found : (scan D g a n).1 ≡ source_of D g a
      found = ap (λ i. (scan D g a i).1) e ∙ source-held D g a held

      go : Lows k place source (scan D g a n) → MatchOption source (k ≤ source_of D g a) (λ b. (b < k) × (b ≡ source_of D g a))
      go (nobody z f h) = rw z (omega (arith, h, found))
      go (alone b z lb f) = rw z (lb, sym (ap (λ (y : ℕ × ℕ). y.1) f) ∙ found)
      go (shared z f) = rw z (omega (arith, ap (λ (y : ℕ × ℕ). y.1) f, found))

  -- what the number that is computed is: the source, or else, by the place, k where there is none yet and k + 1 where two share it
  abbrev pub Numbered : ℕ → Option ℕ → Type 0
  Numbered place source =
      MatchOption source ((place ≡ no_place → k ≡ source_of D g a) × (place ≢ no_place → k + 1 ≡ source_of D g a)) (λ b. b ≡ source_of D g a)

  -- past all sources of a parity at hand
  pub kept_number : (place : ℕ) (source : Option ℕ) → present (k + a) ≡ true → LowsApart k place source (scan D g a k) → Numbered place source
  kept_number place source held L = go L.lows
    where
      found : (scan D g a k).1 ≡ source_of D g a
      found = source-held D g a held

      go : Lows k place source (scan D g a k) → Numbered place source
      go (nobody z f h) = rw z ((λ e. sym h ∙ found), (λ n. absurd (n f)))
      go (alone b z lb f) = rw z (sym (ap (λ (y : ℕ × ℕ). y.1) f) ∙ found)
      go (shared z f) = rw z ((λ e. absurd (omega (arith, L.below z (ap (λ (y : ℕ × ℕ). y.1) f), e))), (λ n. sym (ap (λ (y : ℕ × ℕ). y.1) f) ∙ found))
