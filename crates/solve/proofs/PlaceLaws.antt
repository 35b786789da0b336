-- Rows at places of their own: what is done to one of them leaves the others as they are. Assumes nothing.
use mathlib.Core.Path.{◌≡◌, refl, sym, subst, ◌∙◌}
use mathlib.Core.Logic.{◌≢◌}
use mathlib.Core.List.{List}
use Prim.Native.Nat.{ℕ, ◌+◌, ◌%◌, ◌<◌}
use native.Mathlib.Omega.{arith}
use lib.ListN.{length}
use Rattle.bits.specs.Sums.{at}
use Rattle.rows.specs.Rows.{row_bits, AddedTo, Divided}
use Rattle.rows.proofs.RowLaws.{added_here, added_other}
use Rattle.solve.specs.Solve.{Polynomials, HasPlaces, placed, Changed, Freed}

-- of n rows row i changed so, and the others are as they were
pub record Turned (so : (ℕ → ℕ) → (ℕ → ℕ) → Type 0) (i n : ℕ) (r r' : Polynomials) : Type 0 where
  pub here : so (r i) (r' i)
  pub still : (j p : ℕ) → j < n → j ≢ i → r' j p ≡ r j p

-- g was added
abbrev pub Gained : (ℕ → ℕ) → (ℕ → ℕ) → (ℕ → ℕ) → Type 0
Gained g f f' = (p : ℕ) → p < row_bits → f' p ≡ (f p + g p) % 2

module _ (place : List ℕ) (n : ℕ) where
  pub placed_still : (rows rows' : List ℕ) → length rows' ≡ length rows → HasPlaces place n rows → HasPlaces place n rows'
  placed_still rows rows' e P = record { some = P.some; listed = P.listed; has = λ i l. omega (arith, e, P.has i l); apart = P.apart }

  module _ (rows : List ℕ) (P : HasPlaces place n rows) (rows' : List ℕ) (i : ℕ) (l : i < n) where
    pub added_placed : (g : ℕ → ℕ) → AddedTo (at place i) g rows rows' → Changed (Turned (Gained g) i n) place n rows rows'
    added_placed g h = record {
      here = record {
        here = added_here (at place i) g rows rows' h;
        still = λ j p lj ne. added_other (at place i) g rows rows' h (at place j) p (P.apart i j l lj (λ e. ne (sym e)));
      };
      others = λ c p out. added_other (at place i) g rows rows' h c p (out i l);
    }

    pub divided_placed : (e d h : ℕ) → e + d ≡ h → Divided (at place i) e d rows rows' → Changed (Turned (Freed e h) i n) place n rows rows'
    divided_placed e d h s D = subst (λ x. Changed (Turned (Freed e x) i n) place n rows rows') s (record {
      here = record { here = D.here; still = λ j p lj ne. D.others (at place j) p (P.apart i j l lj (λ e. ne (sym e))) };
      others = λ c p out. D.others c p (out i l);
    })

  pub changed_none : (so : Polynomials → Polynomials → Type 0) (rows : List ℕ) → so (placed place rows) (placed place rows) → Changed so place n rows rows
  changed_none so rows h = record { here = h; others = λ c p out. refl }

  -- one change after another, and two
  module _ (so then : Polynomials → Polynomials → Type 0) (rows rows₁ rows₂ : List ℕ) (g : Changed so place n rows rows₁) (h : Changed then place n rows₁ rows₂) where
    pub changed_then : (all : Polynomials → Polynomials → Type 0)
        → (so (placed place rows) (placed place rows₁) → then (placed place rows₁) (placed place rows₂) → all (placed place rows) (placed place rows₂)) → Changed all place n rows rows₂
    changed_then all both = record { here = both g.here h.here; others = λ c p out. h.others c p out ∙ g.others c p out }

    pub changed_twice : (last all : Polynomials → Polynomials → Type 0) (rows₃ : List ℕ) → Changed last place n rows₂ rows₃
        → (so (placed place rows) (placed place rows₁) → then (placed place rows₁) (placed place rows₂) → last (placed place rows₂) (placed place rows₃)
        → all (placed place rows) (placed place rows₃)) → Changed all place n rows rows₃
    changed_twice last all rows₃ k three = record { here = three g.here h.here k.here; others = λ c p out. k.others c p out ∙ h.others c p out ∙ g.others c p out }
