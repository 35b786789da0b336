-- Even rows: what each step of the solution does to the unknowns in the rows. Assumes nothing.
use mathlib.Core.Path.{◌≡◌, refl, sym, ap, ap₂, subst, ◌∙◌}
use mathlib.Core.Logic.{◌≢◌}
use Prim.Native.Nat.{ℕ, zero, suc, ◌+◌, ◌-◌, ◌*◌, ◌%◌, ◌≤◌, ◌<◌}
use native.Mathlib.Omega.{arith}
use native.Mathlib.Nat.{mul-le-mul_right}
use native.Mathlib.Numerals.{add-one}
use native.Mathlib.Decide.{ℕ_discrete}
use Rattle.bits.specs.Sums.{sum}
use Rattle.bits.specs.Bits.{up}
use Rattle.bits.proofs.SumLaws.{sum_same, sum_nought, mod_more}
use Rattle.bits.proofs.UpLaws.{up_same, up_up, up-noughts}
use Rattle.rows.specs.Rows.{row_bits}
use Rattle.solve.specs.Solve.{Polynomials, even_row, row_rise, Fit, Same, Freed, Climbs, SolvedRows}
use Rattle.solve.specs.EvenRows.{Eliminated, Restored, raise, raised, Firsts, Reduced, EliminatedTo}
use Rattle.solve.proofs.PlaceLaws.{Turned, Gained}
use Rattle.solve.proofs.TermLaws.{up_zero, up_clear, up_both, up-sum, sum_pairs, sum_around, added_twice}

-- q unknowns are eliminated, and the rest of the rows are those that are left
pub record Unknowns (v : ℕ → ℕ) (n : ℕ) (y : Polynomials) (q : ℕ) (r : Polynomials) : Type 0 where
  pub firsts : Firsts v n y q r
  pub rest : (b p : ℕ) → q ≤ b → b < n → p < row_bits → r b p ≡ raised v y q b p

-- from one unknown on that was left, all but q were restored
abbrev pub RestoredTo : (ℕ → ℕ) → ℕ → ℕ → Polynomials → Polynomials → Type 0
RestoredTo v n q r r' = (y : Polynomials) → Fit n (row_rise v n) y → Reduced v n y (n - 1) r → Unknowns v n y q r'

-- the rows after row i were added to, from the last one up
module _ (e n : ℕ) (r : Polynomials) where
  pub eliminated_more : (i : ℕ) (r₁ r₂ : Polynomials) → 0 < i → i < n → Eliminated e i n r r₁ → Turned (Gained (up e (r₁ (i - 1)))) i n r₁ r₂ → Eliminated e (i - 1) n r r₂
  eliminated_more i r₁ r₂ l li E T = record {
    after = λ j p a b lp. elim (ℕ_discrete j i) [
      | yes s ↦ rw s (T.here p lp ∙ ap₂ (λ x z. (x + z) % 2) (E.still i p li (omega arith)) (up_same e (r₁ (i - 1)) (r (i - 1)) p (λ o _. E.still (i - 1) o (omega arith) (omega arith))))
      | no ne ↦ T.still j p b ne ∙ E.after j p (omega arith) b lp
    ];
    still = λ j p a b. T.still j p a (omega arith) ∙ E.still j p a (omega arith);
  }

-- the rows after row q and before row b were divided, and added to row q
module _ (v : ℕ → ℕ) (q n : ℕ) (r : Polynomials) where
  pub restored_none : ((p : ℕ) → r q p < 2) → Restored v q (q + 1) n r r
  unfolding sum
  restored_none small = record {
    after = λ b lo hi. absurd (omega arith);
    first = λ p lp. let z : q + 1 - (q + 1) ≡ 0 = omega arith in rw z (omega (arith, small p));
    still = λ i p l ne g. refl;
  }

  module _ (b : ℕ) (r₁ r₂ r₃ : Polynomials) (lq : q < b) (lb : b < n)
      (R : Restored v q b n r r₁) (D : Turned (Freed (v q) (v b)) b n r₁ r₂) (A : Turned (Gained (up 0 (r₂ b))) q n r₂ r₃) where
    still_there : (i p : ℕ) → i < n → i ≢ q → i ≢ b → r₃ i p ≡ r₁ i p
    still_there i p l nq nb = A.still i p l nq ∙ D.still i p l nb

    pub restored_more : Restored v q (b + 1) n r r₃
    unfolding sum
    restored_more = record {
      after = λ c lo hi. elim (ℕ_discrete c b) [
        | yes s ↦ rw s (λ y small clear made p lp. A.still b p lb (omega arith) ∙ D.here y small clear (λ o lo. R.still b o lb (omega arith) (λ _. omega arith) ∙ made o lo) p lp)
        | no ne ↦ λ y small clear made p lp. still_there c p (omega arith) (omega arith) ne ∙ R.after c lo (omega arith) y small clear made p lp
      ];
      first = λ p lp.
          let k : b + 1 - (q + 1) ≡ suc (b - (q + 1)) = omega arith in
          let last : r₃ (q + 1 + (b - (q + 1))) p ≡ r₂ b p = (let s : q + 1 + (b - (q + 1)) ≡ b = omega arith in rw s (A.still b p lb (omega arith))) in
          A.here p lp ∙ mod_more (r₂ q p) (r q p) (sum (b - (q + 1)) (λ c. r₁ (q + 1 + c) p)) _ (D.still q p (omega arith) (omega arith) ∙ R.first p lp)
          ∙ ap₂ (λ x z. (r q p + (x + z)) % 2) (sum_same (b - (q + 1)) _ _ (λ c l. sym (still_there (q + 1 + c) p (omega arith) (omega arith) (omega arith)))) (up_zero (r₂ b) p ∙ sym last)
          ∙ ap (λ x. (r q p + sum x (λ c. r₃ (q + 1 + c) p)) % 2) (sym k);
      still = λ i p l ne g. still_there i p l ne (λ s. omega (arith, g (omega arith))) ∙ R.still i p l ne (λ m. omega (arith, g m));
    }

-- a row, and w q times the row before: the unknowns are raised
pub row_raised : (v : ℕ → ℕ) (n q : ℕ) (x : Polynomials) (i p : ℕ) → (even_row v n x (i + 1) p + up (v q) (even_row v n x i) p) % 2 ≡ even_row v n (raise v q x) i p
unfolding even_row raise
row_raised v n q x i p =
    ap (λ s. (sum n (λ b. up ((i + 1) * v b) (x b) p) % 2 + s) % 2) (up-sum n (v q) (λ b. up (i * v b) (x b)) p)
    ∙ sum_pairs n (λ b. up ((i + 1) * v b) (x b) p) (λ b. up (v q) (up (i * v b) (x b)) p) ∙ ap (λ s. s % 2) (sum_same n _ _ (λ b _. term b))
  where
    shifted : (b e e' : ℕ) → e ≡ i * v b + e' → up e (x b) p ≡ up (i * v b) (up e' (x b)) p
    shifted b e e' h = ap (λ s. up s (x b) p) h ∙ sym (up_up (i * v b) e' (x b) p)

    term : (b : ℕ) → (up ((i + 1) * v b) (x b) p + up (v q) (up (i * v b) (x b)) p) % 2 ≡ up (i * v b) (λ o. (up (v q) (x b) o + up (v b) (x b) o) % 2) p
    term b =
        let high = shifted b ((i + 1) * v b) (v b) (omega arith) in
        let low = up_up (v q) (i * v b) (x b) p ∙ shifted b (v q + i * v b) (v q) (omega arith) in
        ap₂ (λ s t. (s + t) % 2) high low ∙ ap (λ s. s % 2) (omega arith) ∙ sym (up_both (i * v b) (up (v q) (x b)) (up (v b) (x b)) p)

module _ (v : ℕ → ℕ) (n : ℕ) (climbs : Climbs v n) (y : Polynomials) (F : Fit n (row_rise v n) y) where
  raised_bits : (q b p : ℕ) → b < n → raised v y q b p < 2
  unfolding raised raise
  raised_bits zero b p l = F.bits b p l
  raised_bits (suc q) b p l = omega arith

  -- an unknown that was eliminated
  raised_nought : (q b p : ℕ) → b < q → raised v y q b p ≡ 0
  unfolding raised raise
  raised_nought zero b p l = absurd (omega arith)
  raised_nought (suc q) b p l = elim (ℕ_discrete b q) [
    | yes e ↦ rw e (omega arith)
    | no ne ↦
        let none = raised_nought q b in
        rw (up-noughts (v q) (raised v y q b) p (λ o. none o (omega arith)), up-noughts (v b) (raised v y q b) p (λ o. none o (omega arith)))
  ]

  -- an unknown that is left has room above it for the rows that are left
  raised_clear : (q b p : ℕ) → q ≤ b → b < n → row_bits ≤ p + (n - 1 - q) * v b → raised v y q b p ≡ 0
  unfolding raised raise row_rise
  raised_clear zero b p lq lb h = F.clear b p lb (let e : n - 1 - 0 ≡ n - 1 = omega arith in rw (← e) h)
  raised_clear (suc q) b p lq lb h =
      let k : (n - 1 - q) * v b ≡ v b + (n - 1 - suc q) * v b = (let s : n - 1 - q ≡ 1 + (n - 1 - suc q) = omega arith in rw s (omega arith)) in
      let none : (e : ℕ) → e ≤ v b → up e (raised v y q b) p ≡ 0 =
      λ e le. up_clear e (v b) ((n - 1 - suc q) * v b) row_bits (raised v y q b) p le (λ o g. raised_clear q b o (omega arith) lb (omega (arith, k))) h in
      let less = climbs q b (omega arith) lb in
      rw (none (v q) (omega arith), none (v b) (omega arith))

  -- the first row of what is left is unknown q and the unknowns after it
  row_first : (q p : ℕ) → q < n → even_row v n (raised v y q) 0 p ≡ (raised v y q q p + sum (n - (q + 1)) (λ c. raised v y q (q + 1 + c) p)) % 2
  unfolding even_row
  row_first q p l =
      ap (λ s. s % 2) (sum_same n _ (λ b. raised v y q b p) (λ b _. (let z : 0 * v b ≡ 0 = omega arith in rw z (up_zero (raised v y q b) p)))
      ∙ sum_around n q (λ b. raised v y q b p) l
      ∙ ap (λ s. s + raised v y q q p + sum (n - (q + 1)) (λ c. raised v y q (q + 1 + c) p)) (sum_nought q _ (λ b lb. raised_nought q b p lb)) ∙ omega arith)

  pub reduced_none : (r : Polynomials) → Same n r (even_row v n y) → Reduced v n y 0 r
  unfolding raised
  reduced_none r made = record {
    firsts = λ i p l lp. absurd (omega arith);
    rest = λ i p lo hi lp. let e : i - 0 ≡ i = omega arith in rw e (made i p hi lp);
  }

  first_of : (q : ℕ) (r : Polynomials) → q < n → Reduced v n y q r → (p : ℕ) → p < row_bits → r q p ≡ even_row v n (raised v y q) 0 p
  first_of q r l D p lp = let e : q - q ≡ 0 = omega arith in rw e at (D.rest q p (omega arith) l lp)

  pub reduced_more : (q : ℕ) (r r' : Polynomials) → suc q < n → Reduced v n y q r → Eliminated (v q) q n r r' → Reduced v n y (suc q) r'
  unfolding raised
  reduced_more q r r' l D E = record {
    firsts = λ i p li lp. E.still i p (omega arith) (omega arith) ∙ elim (ℕ_discrete i q) [
      | yes e ↦ rw e (first_of q r (omega arith) D p lp)
      | no ne ↦ D.firsts i p (omega arith) lp
    ];
    rest = λ i p lo hi lp.
        let e : i - q ≡ i - suc q + 1 = omega arith in
        let e' : i - 1 - q ≡ i - suc q = omega arith in
        E.after i p (omega arith) hi lp
        ∙ ap₂ (λ s t. (s + t) % 2) (rw e at (D.rest i p (omega arith) hi lp))
        (up_same (v q) (r (i - 1)) (even_row v n (raised v y q) (i - suc q)) p (λ o eo. rw e' at (D.rest (i - 1) o (omega arith) (omega arith) (omega arith))))
        ∙ row_raised v n q (raised v y q) (i - suc q) p;
  }

  -- the last unknown is its row
  pub unknowns_none : (q : ℕ) (r : Polynomials) → q + 1 ≡ n → Reduced v n y q r → Unknowns v n y q r
  unfolding sum
  unknowns_none q r e D = record {
    firsts = D.firsts;
    rest = λ b p lo hi lp.
        let s : b ≡ q = omega arith in
        let z : n - (q + 1) ≡ 0 = omega arith in
        rw s (first_of q r (omega arith) D p lp ∙ row_first q p (omega arith) ∙ rw z (omega (arith, raised_bits q q p (omega arith))));
  }

  pub unknowns_more : (q : ℕ) (r r' : Polynomials) → suc q < n → Unknowns v n y (suc q) r → Restored v q n n r r' → Unknowns v n y q r'
  unfolding raised raise
  unknowns_more q r r' l U R = record {
    firsts = λ i p li lp. R.still i p (omega arith) (omega arith) (λ g. omega arith) ∙ U.firsts i p (omega arith) lp;
    rest = λ b p lo hi lp. elim (ℕ_discrete b q) [
      | yes e ↦ rw e (
          R.first p lp
          ∙ ap₂ (λ s t. (s + t) % 2) (U.firsts q p (omega arith) lp ∙ row_first q p (omega arith))
          (sum_same (n - (q + 1)) _ (λ c. raised v y q (q + 1 + c) p) (λ c lc. later (q + 1 + c) (omega arith) (omega arith) p lp))
          ∙ added_twice (raised v y q q p) (sum (n - (q + 1)) (λ c. raised v y q (q + 1 + c) p)) (raised_bits q q p (omega arith)))
      | no ne ↦ later b (omega arith) hi p lp
    ];
  }
    where
      later : (b : ℕ) → q < b → b < n → (p : ℕ) → p < row_bits → r' b p ≡ raised v y q b p
      later b lb hb = R.after b lb hb (raised v y q b) (λ p. raised_bits q b p hb)
          (λ p h. raised_clear q b p (omega arith) hb (omega (arith, mul-le-mul_right {m = 1} {n = n - 1 - q} (v b) (omega arith)))) (λ p lp. U.rest b p (omega arith) hb lp)

-- one unknown after the other, all the way down and up again
module _ (v : ℕ → ℕ) (n : ℕ) (climbs : Climbs v n) (r : Polynomials) where
  pub eliminated_from : EliminatedTo v n 0 r r
  eliminated_from y F made = reduced_none v n climbs y F r made

  pub eliminated_next : (q : ℕ) (r₁ r₂ : Polynomials) → q + 1 < n → EliminatedTo v n q r r₁ → Eliminated (v q) q n r₁ r₂ → EliminatedTo v n (q + 1) r r₂
  eliminated_next q r₁ r₂ l T E y F made = rw add-one (reduced_more v n climbs y F q r₁ r₂ (omega arith) (T y F made) E)

  pub restored_from : 1 ≤ n → RestoredTo v n (n - 1) r r
  restored_from l y F D = unknowns_none v n climbs y F (n - 1) r (omega arith) D

  pub restored_next : (q : ℕ) (r₁ r₂ : Polynomials) → 0 < q → q < n → RestoredTo v n q r r₁ → Restored v (q - 1) n n r₁ r₂ → RestoredTo v n (q - 1) r r₂
  restored_next q r₁ r₂ l lq T R y F D = let e : q ≡ suc (q - 1) = omega arith in unknowns_more v n climbs y F (q - 1) r₁ r₂ (omega arith) (subst (λ k. Unknowns v n y k r₁) e (T y F D)) R

  -- rows that the unknowns make become the unknowns
  pub solved_is : (r₁ r₂ : Polynomials) → EliminatedTo v n (n - 1) r r₁ → RestoredTo v n 0 r₁ r₂ → SolvedRows v n r r₂
  unfolding raised
  solved_is r₁ r₂ E R y F made b p l lp = (R y F (E y F made)).rest b p (omega arith) l lp
