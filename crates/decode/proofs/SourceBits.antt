-- One bit of a source: read as it stands in a parity, and set where there was none. Assumes nothing.
use mathlib.Core.Path.{◌≡◌, refl, sym, ap, ◌∙◌, fun_ext}
use mathlib.Core.List.{List}
use Prim.Native.Nat.{ℕ, ◌+◌, ◌-◌, ◌*◌, ◌≤◌, ◌<◌}
use native.Mathlib.Omega.{arith}
use native.Mathlib.Decide.{ℕ_discrete, dec_lt}
use borrow.Author.Tests.{lt-ltb, le-ltb}
use Rattle.bits.specs.Sums.{one_at}
use Rattle.bits.proofs.SumLaws.{one_at_same, one_at_other}
use Rattle.bits.proofs.UpLaws.{up_low, up_from}
use Rattle.table.specs.Desk.{Desk}
use Rattle.rows.specs.Rows.{row_bits, row_in, AddedTo}
use Rattle.rows.proofs.RowLaws.{row_lt, row_past, added_here, added_other}
use Rattle.walk.specs.Read.{put}
use Rattle.walk.proofs.ReadLaws.{put_same, put-bit, put-source}
use Rattle.survivors.specs.Remainders.{source_in}
use Rattle.survivors.proofs.RestLaws.{source_in_lem}
use Rattle.decode.specs.Data.{in_row, SameRests}

module _ (D : Desk) where
  open D use {k, shift}

  pub source_lt : (rows : List ℕ) (c p : ℕ) → source_in D rows c p < 2
  unfolding source_in
  source_lt rows c p = elim (dec_lt c k) [
    | yes l ↦ rw (lt-ltb c k l) (row_lt rows c p)
    | no l ↦ rw (le-ltb c k (omega arith)) (omega arith)
  ]

  -- past the sources there are no bits
  pub source_none : (rows : List ℕ) (c p : ℕ) → k ≤ c → source_in D rows c p ≡ 0
  unfolding source_in
  source_none rows c p l = rw (le-ltb c k l)

  -- bit q of source c as it stands in parity a, e its shift there: below the source, and from it on
  module _ (rows : List ℕ) (a c q e : ℕ) (is : e ≡ shift a c) where
    pub shifted_low : q < e → 0 ≡ in_row D (source_in D rows) c a q
    shifted_low l = sym (up_low (shift a c) (source_in D rows c) q (omega arith))

    pub shifted_here : c < k → e ≤ q → row_in rows c (q - e) ≡ in_row D (source_in D rows) c a q
    shifted_here lc l = sym (up_from (shift a c) (source_in D rows c) q (omega arith) ∙ source_in_lem D rows c (q - shift a c) lc ∙ ap (λ x. row_in rows c (q - x)) (sym is))

  -- a bit that was nought becomes v, and what is left of the parities is as it was
  module _ (rows rows' : List ℕ) (b g v : ℕ) (lb : b < k) (lg : g < row_bits) (lv : v < 2) (z : source_in D rows b g ≡ 0) (h : AddedTo b (λ q. v * one_at g q) rows rows') where
    here : (p : ℕ) → p < row_bits → source_in D rows' b p ≡ put (source_in D rows) b g v b p
    here p lp =
        source_in_lem D rows' b p lb ∙ added_here b _ rows rows' h p lp ∙ elim (ℕ_discrete g p) [
          | yes f ↦ rw (put_same (source_in D rows) b g v b p refl f, one_at_same g p f, ← f, sym (source_in_lem D rows b g lb) ∙ z) (omega arith)
          | no nf ↦ rw (put-bit (source_in D rows) b g v b p nf, one_at_other g p nf) (omega (arith, row_lt rows b p, source_in_lem D rows b p lb))
        ]

    pub source-put : source_in D rows' ≡ put (source_in D rows) b g v
    source-put = fun_ext λ c. fun_ext λ p. elim (ℕ_discrete b c) [
      | no ne ↦ other c p ne ∙ sym (put-source (source_in D rows) b g v c p ne)
      | yes e ↦ rw (← e) (elim (dec_lt p row_bits) [
        | yes l ↦ here p l
        | no l ↦ past rows' p (omega arith) ∙ sym (put-bit (source_in D rows) b g v b p (λ f. omega arith) ∙ past rows p (omega arith))
      ])
    ]
      where
        past : (x : List ℕ) (p : ℕ) → row_bits ≤ p → source_in D x b p ≡ 0
        past x p l = source_in_lem D x b p lb ∙ row_past x b p l

        other : (c p : ℕ) → (b ≡ c → ⊥) → source_in D rows' c p ≡ source_in D rows c p
        other c p ne = elim (dec_lt c k) [
          | yes l ↦ source_in_lem D rows' c p l ∙ added_other b _ rows rows' h c p ne ∙ sym (source_in_lem D rows c p l)
          | no l ↦ source_none rows' c p (omega arith) ∙ sym (source_none rows c p (omega arith))
        ]

    pub rests_kept : SameRests D rows rows'
    rests_kept a q = added_other b _ rows rows' h (k + a) q (λ e. omega arith)
