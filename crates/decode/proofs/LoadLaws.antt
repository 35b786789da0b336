-- Rows at places of their own that are made one after the other: loaded to be solved, and unloaded when they are. Assumes nothing.
use mathlib.Core.Path.{◌≡◌, refl, sym, ap, ap₂, ◌∙◌}
use mathlib.Core.Logic.{◌≢◌}
use mathlib.Core.Bool.{cond}
use mathlib.Core.List.{List}
use Prim.Native.Nat.{ℕ, ◌+◌, ◌-◌, ◌*◌, ◌≤◌, ◌<◌}
use native.Mathlib.Omega.{arith}
use native.Mathlib.Decide.{ℕ_discrete, dec_lt}
use lib.Dec.{ltb}
use Rattle.bits.specs.Sums.{at}
use Rattle.bits.specs.Bits.{up}
use Rattle.bits.proofs.UpLaws.{up_low, up_from, up_same, up_lt}
use Rattle.rows.specs.Rows.{row_bits, row_in, Became, AddedTo}
use Rattle.rows.proofs.RowLaws.{row_lt, row_past, added_here, added_other}
use Rattle.solve.specs.Solve.{Polynomials}
use Rattle.solve.proofs.TermLaws.{up_zero}
use Rattle.decode.specs.Solving.{AllBecame}

-- ---- one row after the other

module _ (f : Polynomials) (place rows : List ℕ) where
  pub all_none : AllBecame f place 0 rows rows
  all_none = record { here = λ i p l lp. absurd (omega arith); others = λ c p out. refl }

  pub all_more : (i : ℕ) (g : ℕ → ℕ) (rows₁ rows₂ : List ℕ) → ((j : ℕ) → j < i → at place i ≢ at place j) → AllBecame f place i rows rows₁ → Became (at place i) g rows₁ rows₂
      → ((p : ℕ) → p < row_bits → g p ≡ f i p) → AllBecame f place (i + 1) rows rows₂
  all_more i g rows₁ rows₂ apart before now made = record {
    here = λ j p lj lp. elim (ℕ_discrete j i) [
      | yes e ↦ rw e (now.here p lp ∙ made p lp)
      | no ne ↦ now.others (at place j) p (apart j (omega arith)) ∙ before.here j p (omega arith) lp
    ];
    others = λ c p out. now.others c p (out i (omega arith)) ∙ before.others c p (λ j lj. out j (omega arith));
  }

-- ---- a row shifted up by e and down by d, at once

pub up_down_same : (e e' d d' : ℕ) (f f' : ℕ → ℕ) (p : ℕ) → e ≡ e' → d ≡ d' → ((q : ℕ) → f q ≡ f' q) → up e f (d + p) ≡ up e' f' (d' + p)
up_down_same e e' d d' f f' p ee dd h = ap₂ (λ x y. up x f (y + p)) ee dd ∙ up_same e' f f' (d' + p) (λ q _. h q)

-- in one shift up, or in one shift down
up_less : (e d : ℕ) (f : ℕ → ℕ) (p : ℕ) → d ≤ e → up (e - d) f p ≡ up e f (d + p)
up_less e d f p l = elim (dec_lt p (e - d)) [
  | yes s ↦ up_low (e - d) f p s ∙ sym (up_low e f (d + p) (omega arith))
  | no s ↦ up_from (e - d) f p (omega arith) ∙ ap f (omega arith) ∙ sym (up_from e f (d + p) (omega arith))
]

down_more : (e d : ℕ) (f : ℕ → ℕ) (p : ℕ) → e ≤ d → f (d - e + p) ≡ up e f (d + p)
down_more e d f p l = ap f (omega arith) ∙ sym (up_from e f (d + p) (omega arith))

module _ (a b e d : ℕ) (rows : List ℕ) (none : (p : ℕ) → row_in rows a p ≡ 0) where
  -- what is added to noughts stands there alone
  alone : (h : ℕ) (rows' : List ℕ) → AddedTo a (up h (row_in rows b)) rows rows' → (p : ℕ) → p < row_bits → row_in rows' a p ≡ up h (row_in rows b) p
  alone h rows' added p lp = added_here a _ rows rows' added p lp ∙ omega (arith, none p, up_lt h (row_in rows b) p (row_lt rows b))

  pub put_up : (rows' : List ℕ) → d ≤ e → AddedTo a (up (e - d) (row_in rows b)) rows rows' → Became a (λ p. up e (row_in rows b) (d + p)) rows rows'
  put_up rows' l added = record { here = λ p lp. alone (e - d) rows' added p lp ∙ up_less e d (row_in rows b) p l; others = added_other a _ rows rows' added }

  pub put_down : (rows₁ rows₂ : List ℕ) → e ≤ d → AddedTo a (up 0 (row_in rows b)) rows rows₁ → Became a (λ p. row_in rows₁ a (d - e + p)) rows₁ rows₂
      → Became a (λ p. up e (row_in rows b) (d + p)) rows rows₂
  put_down rows₁ rows₂ l added lowered = record {
    here = λ p lp. lowered.here p lp ∙ same (d - e + p) ∙ down_more e d (row_in rows b) p l;
    others = λ c p ne. lowered.others c p ne ∙ added_other a _ rows rows₁ added c p ne;
  }
    where
      same : (p : ℕ) → row_in rows₁ a p ≡ row_in rows b p
      same p = elim (dec_lt p row_bits) [
        | yes lp ↦ alone 0 rows₁ added p lp ∙ up_zero (row_in rows b) p
        | no lp ↦ row_past rows₁ a p (omega arith) ∙ sym (row_past rows b p (omega arith))
      ]

-- ---- a row shifted down, and cut

pub down_cut_same : (n n' e e' : ℕ) (f f' : ℕ → ℕ) (p : ℕ) → n ≡ n' → e ≡ e' → ((q : ℕ) → f q ≡ f' q) → cond (ltb p (8 * n)) (f (e + p)) 0 ≡ cond (ltb p (8 * n')) (f' (e' + p)) 0
down_cut_same n n' e e' f f' p nn ee h = ap₂ (λ x y. cond (ltb p (8 * x)) (f (y + p)) 0) nn ee ∙ ap (λ z. cond (ltb p (8 * n')) z 0) (h (e' + p))

pub lower_then_cut : (a e n : ℕ) (rows rows₁ rows₂ : List ℕ) → Became a (λ p. row_in rows a (e + p)) rows rows₁ → Became a (λ p. cond (ltb p n) (row_in rows₁ a p) 0) rows₁ rows₂
    → Became a (λ p. cond (ltb p n) (row_in rows a (e + p)) 0) rows rows₂
lower_then_cut a e n rows rows₁ rows₂ lowered short = record {
  here = λ p lp. short.here p lp ∙ ap (λ x. cond (ltb p n) x 0) (lowered.here p lp);
  others = λ c p ne. short.others c p ne ∙ lowered.others c p ne;
}
