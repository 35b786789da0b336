-- Why solving finds the missing sources: what is left of the parities at hand, loaded, is made of them evenly. Assumes nothing.
use mathlib.Core.Path.{◌≡◌, refl, sym, ap, ◌∙◌}
use mathlib.Core.Logic.{◌≢◌}
use mathlib.Core.Bool.{Bool, true, false, cond, true≢false}
use mathlib.Core.List.{List}
use Prim.Native.Nat.{ℕ, ◌+◌, ◌*◌, ◌%◌, ◌≤◌, ◌<◌}
use native.Mathlib.Omega.{arith}
use native.Mathlib.Decide.{ℕ_discrete, dec_lt}
use borrow.Author.Tests.{lt-ltb, le-ltb}
use lib.Dec.{ltb}
use Rattle.bits.specs.Sums.{at, sum}
use Rattle.bits.specs.Bits.{up}
use Rattle.bits.proofs.SumLaws.{sum_same, sum_nought, sum_both, count_not}
use Rattle.bits.proofs.UpLaws.{up_at, up_same, up_high, up-noughts, up_up, up_lt}
use Rattle.bits.proofs.BitLaws.{tells_so}
use Rattle.table.specs.Limits.{max_shift}
use Rattle.table.specs.Desk.{Desk}
use Rattle.table.specs.Desks.{desk_of}
use Rattle.table.specs.declared.desks.Desk as laid
use Rattle.table.proofs.Bounds.{Bounded}
use Rattle.rows.specs.Rows.{row_bits, row_in}
use Rattle.rows.proofs.RowLaws.{row_past}
use Rattle.code.specs.Code.{Bits, sum_of, Encodes}
use Rattle.walk.specs.Walk.{Gone}
use Rattle.walk.proofs.Totals.{gone}
use Rattle.plan.specs.Plan.{Planned, listed_shift}
use Rattle.plan.specs.Even.{Inside}
use Rattle.plan.proofs.ListedLaws.{listed_distinct}
use Rattle.plan.proofs.Planned.{planned_gone, planned_ended, planned_low}
use Rattle.solve.specs.Solve.{Polynomials, Fit, even_row, even_column, row_rise, column_rise, Rising, Changed}
use Rattle.solve.proofs.TermLaws.{up-sum}
use Rattle.survivors.specs.Remainders.{Roomy, source_in, InBytes}
use Rattle.survivors.proofs.RestLaws.{source_in_lem}
use Rattle.decode.specs.Data.{Blank, Rests, in_row, SolvedFor, Uncovered}
use Rattle.decode.specs.Solving.{Sited, AllBecame, SolvedBy, loaded, unloaded}
use Rattle.decode.proofs.ListedSums.{listed_sum}
use Rattle.decode.proofs.MissingSums.{missing_bit, missing-bit-present, missing-bit-gone}

-- ---- bits shifted up in one way and in another

up_level : (a b c d e : ℕ) (f : ℕ → ℕ) (p : ℕ) → b + a ≡ e + c + d → up a (up b f) (c + p) ≡ up e (up d f) p
up_level a b c d e f p h =
    let level : a + b ≡ c + (e + d) = omega arith in
    up_up a b f (c + p) ∙ ap (λ z. up z f (c + p)) level ∙ sym (up_up c (e + d) f (c + p)) ∙ up_at c (up (e + d) f) p ∙ sym (up_up e d f p)

-- ---- loaded, solved and unloaded by a plan

module _ (D : Desk) (B : Bounded D) (way n : ℕ) (held columns rises : List ℕ) (P : Planned D way n held columns rises) where
  open D use {k, bits, bytes, shift, present}

  abbrev t : ℕ → ℕ → ℕ
  t = listed_shift D held columns

  t_low : (i b : ℕ) → b < n → t i b ≤ max_shift
  t_low i b lb = B.low (at held i) (at columns b) (P.gone.inside b lb).0

  -- a present source, and what is left of a parity, stand at none of the places
  present_apart : (c : ℕ) → present c ≡ true → (i : ℕ) → i < n → at columns i ≢ c
  present_apart c e i li q = true≢false (sym e ∙ sym (ap present q) ∙ (P.gone.inside i li).1)

  rest_apart : (a i : ℕ) → i < n → at columns i ≢ k + a
  rest_apart a i li q = omega (arith, (P.gone.inside i li).0)

  module _ (rows rows₁ rows₂ rows₃ : List ℕ) (blank : Blank D rows) (load : AllBecame (loaded D held columns rows) columns n rows rows₁)
      (solve : Changed (SolvedBy way (at rises) n) columns n rows₁ rows₂) (unload : AllBecame (unloaded D held columns rows₂) columns n rows₂ rows₃) where
    -- what stands at none of the places is as it was
    others : (c p : ℕ) → ((i : ℕ) → i < n → at columns i ≢ c) → row_in rows₃ c p ≡ row_in rows c p
    others c p out = unload.others c p out ∙ solve.others c p out ∙ load.others c p out

    module _ (r x : Bits) (R : Rests D r (source_in D rows) rows) (E : Encodes D r (source_in D rows) x) where
      -- missing source b
      abbrev missing : Polynomials
      missing b = x (at columns b)

      missing_past : (b p : ℕ) → b < n → bits ≤ p → missing b p ≡ 0
      missing_past b p lb lp = E.source.short (at columns b) p (P.gone.inside b lb).0 lp

      -- what is left of a parity at hand is the sum of the missing sources, as they stand in it
      split : (a q c : ℕ) → c < k → (w : Bool) → present c ≡ w → in_row D x c a q ≡ in_row D (source_in D rows) c a q + missing_bit D x a q c
      split a q c l true e = omega (arith, missing-bit-present D x a q c e, up_same (shift a c) (source_in D rows c) (x c) q (λ p _. E.kept c p l e))
      split a q c l false e = omega (arith, missing-bit-gone D x a q c e, up-noughts (shift a c) (source_in D rows c) q (λ p. blank c p (l, e)))

      rest_sum : (i q : ℕ) → i < n → row_in rows (k + at held i) q ≡ sum n (λ b. up (t i b) (missing b) q) % 2
      unfolding sum_of
      rest_sum i q li = elim (dec_lt q row_bits) [
        | yes l ↦
            let a = at held i in
            let H = P.held.listed.inside i li in
            let here = R a q l in
            let all = sum_both k _ _ _ (λ c lc. split a q c lc (present c) refl) in
            let those = listed_sum D columns n P.gone (missing_bit D x a q) (λ c e. missing-bit-present D x a q c e) in
            let each = sum_same n (λ b. missing_bit D x a q (at columns b)) (λ b. up (t i b) (missing b) q) (λ b lb. missing-bit-gone D x a q (at columns b) (P.gone.inside b lb).1) in
            rw H.1 at here ∙ omega (arith, E.made a q H, all, those, each)
        | no l ↦ row_past rows (k + at held i) q (omega arith)
            ∙ sym (ap (λ z. z % 2) (sum_nought n _ (λ b lb. up_high (t i b) (missing b) bits q (λ p lp. missing_past b p lb lp) (omega (arith, t_low i b lb, B.bits_high)))))
      ]

      -- as it stands in the first parity at hand
      abbrev unknown : Polynomials
      unknown b = up (t 0 b) (missing b)

      -- loaded, a row is made of these
      loaded-sum : (X : ℕ → ℕ) (i p : ℕ) → i < n → ((b : ℕ) → b < n → t i b + t 0 0 ≡ X b + t i 0 + t 0 b) → loaded D held columns rows i p ≡ sum n (λ b. up (X b) (unknown b) p) % 2
      loaded-sum X i p li even =
          up_same (t 0 0) (row_in rows (k + at held i)) (λ q. sum n (λ b. up (t i b) (missing b) q) % 2) (t i 0 + p) (λ q _. rest_sum i q li)
          ∙ up-sum n (t 0 0) (λ b. up (t i b) (missing b)) (t i 0 + p)
          ∙ ap (λ z. z % 2) (sum_same n _ _ (λ b lb. up_level (t 0 0) (t i b) (t i 0) (t 0 b) (X b) (missing b) p (even b lb)))

      unknown_fit : (rise : ℕ → ℕ) → ((b : ℕ) → b < n → t 0 b + rise b ≤ max_shift) → Fit n rise unknown
      unknown_fit rise room = record {
        bits = λ b p lb. up_lt (t 0 b) (missing b) p (E.source.bit (at columns b));
        clear = λ b p lb h. up_high (t 0 b) (missing b) bits p (λ q lq. missing_past b q lb lq) (omega (arith, room b lb, B.bits_high));
      }

      -- so they come out of solving
      solved_unknown : (b p : ℕ) → b < n → p < row_bits → row_in rows₂ (at columns b) p ≡ unknown b p
      unfolding even_row even_column row_rise column_rise
      solved_unknown b p lb lp = elim (ℕ_discrete way 1) [
        | yes e ↦
            let R = P.by_rows e in
            solve.here.by_rows e unknown (unknown_fit _ R.room)
            (λ i q li lq. load.here i q li lq ∙ loaded-sum (λ c. i * at rises c) i q li (λ c lc. R.even i c li lc)) b p lb lp
        | no ne ↦
            let e : way ≡ 2 = omega (arith, P.way_low, P.way_high) in
            let C = P.by_columns e in
            solve.here.by_columns e unknown (unknown_fit _ C.room)
            (λ i q li lq. load.here i q li lq ∙ loaded-sum (λ c. c * at rises i) i q li (λ c lc. C.even i c li lc)) b p lb lp
      ]

      -- and are unloaded as the missing sources
      solved_source : (b p : ℕ) → b < n → row_in rows₃ (at columns b) p ≡ missing b p
      solved_source b p lb = elim (dec_lt p row_bits) [
        | yes lp ↦ unload.here b p lb lp ∙ elim (dec_lt p (8 * bytes)) [
          | yes l ↦ rw (lt-ltb p (8 * bytes) l) (solved_unknown b (t 0 b + p) lb (omega (arith, t_low 0 b lb, B.bytes_high)) ∙ up_at (t 0 b) (missing b) p)
          | no l ↦ rw (le-ltb p (8 * bytes) (omega arith)) (sym (missing_past b p lb (omega (arith, B.fits))))
        ]
        | no lp ↦ row_past rows₃ (at columns b) p (omega arith) ∙ sym (missing_past b p lb (omega (arith, B.bits_high)))
      ]

    kept : (c p : ℕ) → present c ≡ true → source_in D rows₃ c p ≡ source_in D rows c p
    unfolding source_in
    kept c p e = ap (λ z. cond (ltb c k) z 0) (others c p (present_apart c e))

    -- a missing source is cut to its bytes
    cut_off : (b p : ℕ) → b < n → 8 * bytes ≤ p → row_in rows₃ (at columns b) p ≡ 0
    cut_off b p lb l = elim (dec_lt p row_bits) [
      | yes lp ↦ unload.here b p lb lp ∙ rw (le-ltb p (8 * bytes) l)
      | no lp ↦ row_past rows₃ (at columns b) p (omega arith)
    ]

    pub solved_for : SolvedFor D rows rows₃
    solved_for = record {
      rests = λ a q. others (k + a) q (rest_apart a);
      kept = kept;
      short = λ short c p lc lp. inside short c p lc lp (present c) refl;
      these = λ r x R E c p lc. these r x R E c p lc (present c) refl;
    }
      where
        inside : InBytes D rows → (c p : ℕ) → c < k → 8 * bytes ≤ p → (w : Bool) → present c ≡ w → row_in rows₃ c p ≡ 0
        inside short c p lc lp true e = others c p (present_apart c e) ∙ short c p lc lp
        inside short c p lc lp false e = let y = P.gone.every c (lc, e) in ap (λ z. row_in rows₃ z p) (sym y.2) ∙ cut_off y.0 p y.1 lp

        these : (r x : Bits) → Rests D r (source_in D rows) rows → Encodes D r (source_in D rows) x → (c p : ℕ) → c < k → (w : Bool) → present c ≡ w → source_in D rows₃ c p ≡ x c p
        these r x R E c p lc true e = kept c p e ∙ E.kept c p lc e
        these r x R E c p lc false e =
            let y = P.gone.every c (lc, e) in
            source_in_lem D rows₃ c p lc ∙ ap (λ z. row_in rows₃ z p) (sym y.2) ∙ solved_source r x R E y.0 p y.1 ∙ ap (λ z. x z p) y.2

-- and it is what the walk would have uncovered, bit by bit
pub solved_uncovered : (D : Desk) (way n : ℕ) (held columns rises : List ℕ) → Planned D way n held columns rises
    → (rows rows' : List ℕ) → SolvedFor D rows rows' → Uncovered D (n * D.bits) true rows rows'
solved_uncovered D way n held columns rises P rows rows' S =
    let W = planned_ended D way n held columns rises P in
    record { ended = W.0; full = tells_so W.1; rests = S.rests; kept = S.kept; short = S.short; these = λ _. S.these }

-- ---- what a plan gives for the calls on the way

module _ (d : laid.Desk) (way n : ℕ) (held columns rises : List ℕ) (P : Planned (desk_of d) way n held columns rises) where
  pub planned_inside : Inside d held columns n
  planned_inside = record {
    few = omega (arith, d.within.k_high, planned_gone (desk_of d) way n held columns rises P, count_not d.k (gone (desk_of d)));
    rows_in = λ i l. (P.held.listed.inside i l).0;
    columns_in = λ b l. (P.gone.inside b l).0;
  }

  pub planned_sited : (rows : List ℕ) → Roomy rows → Sited columns n rows
  planned_sited rows room = record {
    some = P.some;
    has = λ i l. omega (arith, d.within.k_high, (P.gone.inside i l).0);
    apart = listed_distinct (Gone (desk_of d)) columns n P.gone;
  }

  pub planned_rising : Rising rises n
  planned_rising = record {
    listed = omega (arith, P.size, planned_inside.few);
    climbs = elim (ℕ_discrete way 1) [ yes e ↦ (P.by_rows e).rising | no ne ↦ (P.by_columns (omega (arith, P.way_low, P.way_high))).rising ];
    most = planned_low (desk_of d) way n held columns rises P;
  }

  pub planned_blank : (rows : List ℕ) → Blank (desk_of d) rows → (i p : ℕ) → i < n → row_in rows (at columns i) p ≡ 0
  planned_blank rows blank i p l = let G = P.gone.inside i l in sym (source_in_lem (desk_of d) rows (at columns i) p G.0) ∙ blank (at columns i) p G
