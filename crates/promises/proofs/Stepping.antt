-- Next step, called again and again: it takes as many calls as walk counts steps, and ends where walk ends. Assumes nothing.
use mathlib.Core.Path.{◌≡◌, refl, sym, ◌∙◌, subst, ap, ap₂}
use mathlib.Core.List.{List, [], ◌∷◌}
use Prim.Native.Nat.{ℕ, ◌+◌, ◌≤◌}
use native.Mathlib.Omega.{arith}
use lib.ListN.{length, length-set, length-map}
use lib.Seq.{ext_get_or}
use Rattle.bits.specs.Sums.{at}
use Rattle.table.specs.Desk.{Desk, desk}
use Rattle.table.proofs.ShapeLaws.{shaped, marked_parts}
use Rattle.walk.specs.Walk.{Order, Stuck, Run, done, step, Next, none, one}
use Rattle.table.specs.Limits.{noughts}
use Rattle.walk.specs.Promise.{Walked}
use Rattle.walk.proofs.Runs.{same_end}
use Rattle.walk.proofs.Computed.{at-bump}
use Rattle.walk.proofs.Reached.{at-noughts}
use Rattle.steps.specs.Steps.{Lists}
use Rattle.promises.specs.StepLists.{Stepping, last, more}

module _ (D : Desk) where
  -- what a run from here to an end looks like, and the numbers of its steps
  pub record Onward (g parities sources end : List ℕ) : Type 0 where
    pub order : Order
    pub lists : Lists parities sources order
    pub run : Run D (at g) order (at end)
    pub stuck : Stuck D (at end)
    pub long : length end ≡ length g

  stops : {g after : List ℕ} {parity source : ℕ} → parity ≡ 0 → Next D g parity source after → Onward g [] [] g
  stops z (none s p q e) = record { order = []; lists = record { parities_are = refl; sources_are = refl }; run = done; stuck = s; long = refl }
  stops z (one a b w p q e) = absurd (never a (sym p ∙ z))
    where
      never : (a : ℕ) → a + 1 ≡ 0 → ⊥
      never a e = omega arith

  steps : {g after parities sources end : List ℕ} {parity source : ℕ}
      → D.k ≤ length g
      → (parity ≡ 0 → ⊥)
      → Next D g parity source after
      → (length after ≡ length g → Onward after parities sources end)
      → Onward g (parity ∷ parities) (source ∷ sources) end
  steps kl ne (none s p q e) r = absurd (ne p)
  steps {g} {after} {end = end} kl ne (one a b w p q e) r =
      let lg : length after ≡ length g = ap length e ∙ length-set g b (at g b + 1) in
      let o = r lg in
      record {
        order = (a, b) ∷ o.order;
        lists = record {
          parities_are = ap₂ (λ (x : ℕ) (xs : List ℕ). x ∷ xs) p o.lists.parities_are;
          sources_are = ap₂ (λ (x : ℕ) (xs : List ℕ). x ∷ xs) q o.lists.sources_are;
        };
        run = step a b w.bare (subst (λ (h : ℕ → ℕ). Run D h o.order (at end)) (ap at e ∙ at-bump g b (omega (arith, w.bare.free.0.0))) o.run);
        stuck = o.stuck;
        long = o.long ∙ lg;
      }

module _ (k m l : ℕ) (table : List ℕ) (marks : ℕ) where
  abbrev D : Desk
  D = desk k m l table marks

  pub onward : {g parities sources end : List ℕ} → k ≤ length g → Stepping k m l table marks g parities sources end → Onward D g parities sources end
  onward kl (last s) = stops D refl (s.done refl)
  onward kl (more ne s u) = steps D kl ne (s.done refl) (λ e. onward (omega arith) u)

  pub stepping_is_the_walk : {c w : ℕ} {parities sources end progress : List ℕ}
      → Stepping k m l table marks noughts parities sources end
      → Walked k m l table marks 0 c w progress
      → (length parities ≡ c) × (end ≡ progress)
  stepping_is_the_walk {parities = parities} {end = end} {progress} u x =
      let f = x.done refl in
      let o = onward (shaped k m l table (marked_parts k m l table marks x.numbered).0).k_high u in
      let e = same_end D (subst (λ (h : ℕ → ℕ). Run D h o.order (at end)) (sym at-noughts) o.run) o.stuck f.reached.run f.stuck in
      let counted : length parities ≡ length o.order = ap length o.lists.parities_are ∙ length-map o.order (λ p. p.0 + 1) in
      (counted ∙ e.0 ∙ sym f.reached.counted, ext_get_or 0 end progress (o.long ∙ sym f.size) (λ i l. ap (λ (h : ℕ → ℕ). h i) e.1))
