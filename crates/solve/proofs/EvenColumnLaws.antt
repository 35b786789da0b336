-- Even columns: what each step of the solution does to the unknowns in the rows. Assumes nothing.
use mathlib.Core.Path.{◌≡◌, refl, sym, ap, ap₂, subst, ◌∙◌}
use mathlib.Core.Logic.{◌≢◌}
use Prim.Native.Nat.{ℕ, zero, suc, ◌+◌, ◌-◌, ◌*◌, ◌%◌, ◌≤◌, ◌<◌}
use native.Mathlib.Omega.{arith}
use native.Mathlib.Nat.{mod-add-mod, add-mod-mod, zero-add}
use native.Mathlib.Numerals.{add-one}
use native.Mathlib.Decide.{dec_lt, ℕ_discrete}
use Rattle.bits.specs.Sums.{sum}
use Rattle.bits.specs.Bits.{up}
use Rattle.bits.proofs.SumLaws.{sum_same}
use Rattle.bits.proofs.UpLaws.{up_same, up_up, up-noughts, up_add}
use Rattle.rows.specs.Rows.{row_bits}
use Rattle.solve.specs.Solve.{Polynomials, even_column, column_rise, Fit, Same, Freed, Climbs, SolvedColumns}
use Rattle.solve.specs.EvenColumns.{Differenced, Expanded, value, quotient, quotients, Remainders, Values, DifferencedTo}
use Rattle.solve.proofs.PlaceLaws.{Turned, Gained}
use Rattle.solve.proofs.TermLaws.{up_zero, up_clear, up_both, up-sum, sum_around, added_twice}

-- after q divisions the rest of the rows are the quotient's coefficients
pub record Coefficients (v : ℕ → ℕ) (n : ℕ) (y : Polynomials) (q : ℕ) (r : Polynomials) : Type 0 where
  pub remainders : Remainders v n y q r
  pub rest : (c p : ℕ) → q ≤ c → c < n → p < row_bits → r c p ≡ quotients v n y q c p

-- from one coefficient on that was left, all divisions but q were undone
abbrev pub ExpandedTo : (ℕ → ℕ) → ℕ → ℕ → Polynomials → Polynomials → Type 0
ExpandedTo v n q r r' = (y : Polynomials) → Fit n (column_rise v n) y → Values v n y (n - 1) r → Coefficients v n y q r'

-- row q was added to the rows after it and before row i, and these were divided
module _ (v : ℕ → ℕ) (q n : ℕ) (r : Polynomials) where
  pub differenced_more : (i : ℕ) (r₁ r₂ r₃ : Polynomials) → q < i → i < n → Differenced v q i n r r₁ → Turned (Gained (up 0 (r₁ q))) i n r₁ r₂ → Turned (Freed (v q) (v i)) i n r₂ r₃
      → Differenced v q (i + 1) n r r₃
  differenced_more i r₁ r₂ r₃ lq li R A D = record {
    after = λ c lo hi. elim (ℕ_discrete c i) [
      | yes s ↦ rw s (λ y small clear made. D.here y small clear (λ p lp.
          A.here p lp ∙ ap₂ (λ s t. (s + t) % 2) (R.still i p li (λ _. omega arith)) (up_zero (r₁ q) p ∙ R.still q p (omega arith) (λ g. omega arith)) ∙ made p lp))
      | no ne ↦ λ y small clear made p lp. D.still c p (omega arith) ne ∙ A.still c p (omega arith) ne ∙ R.after c lo (omega arith) y small clear made p lp
    ];
    still = λ c p l g. let ne : c ≢ i = λ s. omega (arith, g (omega arith)) in D.still c p l ne ∙ A.still c p l ne ∙ R.still c p l (λ m. omega (arith, g m));
  }

-- the rows from row q on and before row b were added to
module _ (e q n : ℕ) (r : Polynomials) where
  pub expanded_more : (b : ℕ) (r₁ r₂ : Polynomials) → q ≤ b → b + 1 < n → Expanded e q b n r r₁ → Turned (Gained (up e (r₁ (b + 1)))) b n r₁ r₂ → Expanded e q (b + 1) n r r₂
  expanded_more b r₁ r₂ lq lb R A = record {
    after = λ c p lo hi lp. elim (ℕ_discrete c b) [
      | yes s ↦ rw s (A.here p lp ∙ ap₂ (λ s t. (s + t) % 2) (R.still b p (omega arith) (λ _. omega arith)) (up_same e (r₁ (b + 1)) (r (b + 1)) p (λ o _. R.still (b + 1) o lb (λ _. omega arith))))
      | no ne ↦ A.still c p (omega arith) ne ∙ R.after c p lo (omega arith) lp
    ];
    still = λ c p l g. A.still c p l (λ s. omega (arith, g (omega arith))) ∙ R.still c p l (λ m. omega (arith, g m));
  }

pub value_lt : (e : ℕ) (x : Polynomials) (c k p : ℕ) → value e x c k p < 2
unfolding value
value_lt e x c zero p = omega arith
value_lt e x c (suc k) p = omega arith

-- a value is a sum of powers
pub value-sum : (e : ℕ) (x : Polynomials) (c k p : ℕ) → value e x c k p ≡ sum k (λ b. up (b * e) (x (c + b)) p) % 2
unfolding value sum
value-sum e x c zero p = refl
value-sum e x c (suc k) p =
    ap (λ s. (x c p + s) % 2)
    (up_same e (value e x (suc c) k) (λ o. sum k (λ b. up (b * e) (x (suc c + b)) o) % 2) p (λ o _. value-sum e x (suc c) k o) ∙ up-sum k e (λ b. up (b * e) (x (suc c + b))) p)
    ∙ add-mod-mod (x c p) _ 2 ∙ ap (λ s. s % 2) (ap₂ ◌+◌ first (sum_same k _ _ (λ b _. next b)) ∙ sym around)
  where
    term : ℕ → ℕ
    term b = up (b * e) (x (c + b)) p

    first : x c p ≡ term 0
    first = let z : 0 * e ≡ 0 = omega arith in let s : c + 0 ≡ c = omega arith in sym (rw (z, s) (up_zero (x c) p))

    next : (b : ℕ) → up e (up (b * e) (x (suc c + b))) p ≡ term (0 + 1 + b)
    next b =
        let h : e + b * e ≡ (0 + 1 + b) * e = omega arith in
        let s : suc c + b ≡ c + (0 + 1 + b) = omega arith in
        up_up e (b * e) (x (suc c + b)) p ∙ ap₂ (λ a d. up a (x d) p) h s

    around : sum (suc k) term ≡ term 0 + sum k (λ b. term (0 + 1 + b))
    around = let s : suc k - (0 + 1) ≡ k = omega arith in rw s at (sum_around (suc k) 0 term (omega arith)) ∙ ap (λ a. a + sum k (λ b. term (0 + 1 + b))) (zero-add _)

-- coefficients that have noughts enough leave their value so many
pub value_clear : (N L e : ℕ) (x : Polynomials) (c k p : ℕ) → e ≤ L → ((d o : ℕ) → c ≤ d → d < c + k → N ≤ o + d * L → x d o ≡ 0) → N ≤ p + c * L → value e x c k p ≡ 0
unfolding value
value_clear N L e x c zero p le h l = refl
value_clear N L e x c (suc k) p le h l =
    let m : suc c * L ≡ L + c * L = omega arith in
    let none = up_clear e L (c * L) N (value e x (suc c) k) p le (λ o g. value_clear N L e x (suc c) k o le (λ d o lo hi g. h d o (omega arith) (omega arith) g) (omega arith)) l in
    rw (h c p (omega arith) (omega arith) l, none)

-- a value is the remainder, and x + z ^ w times the quotient's value
pub value_split : (e w n : ℕ) (x : Polynomials) (c k p : ℕ) → c + suc k ≡ n
    → value e x c (suc k) p ≡ (value w x c (suc k) p + (up w (value e (quotient w n x) (suc c) k) p + up e (value e (quotient w n x) (suc c) k) p)) % 2
unfolding value quotient
value_split e w n x c zero p s =
    let none : (a : ℕ) → up a (value e x (suc c) zero) p ≡ 0 = λ a. up-noughts a (value e x (suc c) zero) p (λ o. refl) in
    rw (none e, none w) (omega arith)
value_split e w n x c (suc k) p s =
    ap (λ a. (x c p + a) % 2) (below (λ o. value_split e w n x (suc c) k o (omega arith)))
    ∙ same (x c p) (up e H p) (up e (up w G) p) (up e (up e G) p) (up w H p)
    ∙ ap₂ (λ a b. ((x c p + up w H p) % 2 + (a + b)) % 2) (sym (above w ∙ ap (λ a. (up w H p + a) % 2) turn)) (sym (above e))
  where
    H : ℕ → ℕ
    H = value w x (suc c) (suc k)

    G : ℕ → ℕ
    G = value e (quotient w n x) (suc (suc c)) k

    below : ((o : ℕ) → value e x (suc c) (suc k) o ≡ (H o + (up w G o + up e G o)) % 2) → up e (value e x (suc c) (suc k)) p ≡ (up e H p + (up e (up w G) p + up e (up e G) p)) % 2
    below h =
        up_same e (value e x (suc c) (suc k)) (λ o. (H o + (up w G o + up e G o)) % 2) p (λ o _. h o)
        ∙ up_both e H (λ o. up w G o + up e G o) p ∙ ap (λ a. (up e H p + a) % 2) (up_add e (up w G) (up e G) p)

    whole : (o : ℕ) → quotient w n x (suc c) o ≡ H o
    whole o = let m : n - suc c ≡ suc k = omega arith in ap (λ a. value w x (suc c) a o) m

    above : (d : ℕ) → up d (value e (quotient w n x) (suc c) (suc k)) p ≡ (up d H p + up d (up e G) p) % 2
    above d = up_same d (value e (quotient w n x) (suc c) (suc k)) (λ o. (H o + up e G o) % 2) p (λ o _. ap (λ a. (a + up e G o) % 2) (whole o)) ∙ up_both d H (up e G) p

    turn : up w (up e G) p ≡ up e (up w G) p
    turn = let m : w + e ≡ e + w = omega arith in up_up w e G p ∙ ap (λ a. up a G p) m ∙ sym (up_up e w G p)

    same : (a h m s t : ℕ) → (a + (h + (m + s)) % 2) % 2 ≡ ((a + t) % 2 + ((t + m) % 2 + (h + s) % 2)) % 2
    same a h m s t = simp (mod-add-mod, add-mod-mod) (omega arith)

-- the quotient's coefficients, one from the next
quotient_next : (w n : ℕ) (x : Polynomials) (c p : ℕ) → c < n → quotient w n x c p ≡ (x c p + up w (quotient w n x (c + 1)) p) % 2
unfolding quotient value
quotient_next w n x c p l =
    let s : n - c ≡ suc (n - suc c) = omega arith in
    let t : suc c ≡ c + 1 = omega arith in
    ap (λ k. value w x c k p) s ∙ ap (λ d. (x c p + up w (value w x d (n - d)) p) % 2) t

quotient_past : (w n : ℕ) (x : Polynomials) (c p : ℕ) → n ≤ c → quotient w n x c p ≡ 0
unfolding quotient value
quotient_past w n x c p l = let s : n - c ≡ 0 = omega arith in ap (λ k. value w x c k p) s

module _ (v : ℕ → ℕ) (n : ℕ) (climbs : Climbs v n) (y : Polynomials) (F : Fit n (column_rise v n) y) where
  last_most : (i : ℕ) → i < n → v i ≤ v (n - 1)
  last_most i l = elim (ℕ_discrete i (n - 1)) [
    | yes e ↦ rw e (omega arith)
    | no ne ↦ omega (arith, climbs i (n - 1) (omega arith) (omega arith))
  ]

  quotients_bits : (q c p : ℕ) → c < n → quotients v n y q c p < 2
  unfolding quotients quotient
  quotients_bits zero c p l = F.bits c p l
  quotients_bits (suc q) c p l = value_lt (v q) (quotients v n y q) c (n - c) p

  quotients_clear : (q c p : ℕ) → q ≤ n → c < n → row_bits ≤ p + c * v (n - 1) → quotients v n y q c p ≡ 0
  unfolding quotients quotient column_rise
  quotients_clear zero c p lq lc h = F.clear c p lc h
  quotients_clear (suc q) c p lq lc h =
      value_clear row_bits (v (n - 1)) (v q) (quotients v n y q) c (n - c) p (last_most q (omega arith))
      (λ d o lo hi g. quotients_clear q d o (omega arith) (omega arith) g) h

  pub values_none : (r : Polynomials) → Same n r (even_column v n y) → Values v n y 0 r
  unfolding quotients even_column
  values_none r made = record {
    remainders = λ i p l lp. absurd (omega arith);
    rest = λ i p lo hi lp.
        let e : n - 0 ≡ n = omega arith in
        rw e (made i p hi lp ∙ ap (λ s. s % 2) (sum_same n _ _ (λ b _. let s : b ≡ 0 + b = omega arith in ap (λ c. up (b * v i) (y c) p) s)) ∙ sym (value-sum (v i) y 0 n p));
  }

  -- the value that row q has is the remainder
  remainder_of : (q : ℕ) (r : Polynomials) → q < n → Values v n y q r → (p : ℕ) → p < row_bits → r q p ≡ quotients v n y (suc q) q p
  unfolding quotients quotient
  remainder_of q r l D p lp = D.rest q p (omega arith) l lp

  pub values_more : (q : ℕ) (r r' : Polynomials) → suc q < n → Values v n y q r → Differenced v q n n r r' → Values v n y (suc q) r'
  unfolding quotients
  values_more q r r' l D E = record {
    remainders = λ i p li lp. E.still i p (omega arith) (λ g. omega arith) ∙ elim (ℕ_discrete i q) [
      | yes e ↦ rw e (remainder_of q r (omega arith) D p lp)
      | no ne ↦ D.remainders i p (omega arith) lp
    ];
    rest = λ i p lo hi lp. E.after i (omega arith) hi (next i) (value_lt (v i) _ (suc q) (n - suc q)) (clear i hi) (made i (omega arith) hi) p lp;
  }
    where
      x : Polynomials
      x = quotients v n y q

      next : ℕ → ℕ → ℕ
      next i = value (v i) (quotient (v q) n x) (suc q) (n - suc q)

      clear : (i : ℕ) → i < n → (p : ℕ) → row_bits ≤ p + v i → next i p ≡ 0
      clear i hi p h =
          let m : suc q * v (n - 1) ≡ v (n - 1) + q * v (n - 1) = omega arith in
          value_clear row_bits (v (n - 1)) (v i) (quotient (v q) n x) (suc q) (n - suc q) p (last_most i hi)
          (λ d o lo hi g. quotients_clear (suc q) d o (omega arith) (omega arith) g) (omega (arith, last_most i hi))

      left : (a s : ℕ) → ((a + s) % 2 + a) % 2 ≡ s % 2
      left a s = simp mod-add-mod (omega arith)

      made : (i : ℕ) → q < i → i < n → (p : ℕ) → p < row_bits → (r i p + r q p) % 2 ≡ (up (v q) (next i) p + up (v i) (next i) p) % 2
      made i lo hi p lp =
          let e : n - q ≡ suc (n - suc q) = omega arith in
          ap₂ (λ a b. (a + b) % 2) (rw e at (D.rest i p (omega arith) hi lp) ∙ value_split (v i) (v q) n x q (n - suc q) p (omega arith))
          (rw e at (D.rest q p (omega arith) (omega arith) lp))
          ∙ left (value (v q) x q (suc (n - suc q)) p) (up (v q) (next i) p + up (v i) (next i) p)

  -- the last row is the one coefficient that is left
  pub coefficients_none : (q : ℕ) (r : Polynomials) → q + 1 ≡ n → Values v n y q r → Coefficients v n y q r
  unfolding value
  coefficients_none q r e D = record {
    remainders = D.remainders;
    rest = λ c p lo hi lp.
        let s : c ≡ q = omega arith in
        let k : n - q ≡ 1 = omega arith in
        let x : Polynomials = quotients v n y q in
        rw s (rw k at (D.rest q p (omega arith) (omega arith) lp) ∙ rw (up-noughts (v q) (value (v q) x (suc q) 0) p (λ o. refl)) (omega (arith, quotients_bits q q p (omega arith))));
  }

  pub coefficients_more : (q : ℕ) (r r' : Polynomials) → suc q < n → Coefficients v n y (suc q) r → Expanded (v q) q (n - 1) n r r' → Coefficients v n y q r'
  unfolding quotients
  coefficients_more q r r' l C E = record {
    remainders = λ i p li lp. E.still i p (omega arith) (λ g. omega arith) ∙ C.remainders i p (omega arith) lp;
    rest = λ c p lo hi lp.
        let small = quotients_bits q c p hi in
        elim (dec_lt c (n - 1)) [
          | yes lc ↦
              E.after c p lo lc lp
              ∙ ap₂ (λ s t. (s + t) % 2) (was c p lo hi lp ∙ quotient_next (v q) n x c p hi)
              (up_same (v q) (r (c + 1)) (quotient (v q) n x (c + 1)) p (λ o eo. was (c + 1) o (omega arith) (omega arith) (omega arith)))
              ∙ added_twice (x c p) (up (v q) (quotient (v q) n x (c + 1)) p) small
          | no lc ↦
              E.still c p hi (λ g. omega arith) ∙ was c p lo hi lp ∙ quotient_next (v q) n x c p hi
              ∙ rw (up-noughts (v q) (quotient (v q) n x (c + 1)) p (none c (omega arith))) (omega (arith, small))
        ];
  }
    where
      x : Polynomials
      x = quotients v n y q

      was : (c p : ℕ) → q ≤ c → c < n → p < row_bits → r c p ≡ quotient (v q) n x c p
      was c p lo hi lp = elim (ℕ_discrete c q) [
        | yes e ↦ rw e (C.remainders q p (omega arith) lp)
        | no ne ↦ C.rest c p (omega arith) hi lp
      ]

      none : (c : ℕ) → n ≤ c + 1 → (o : ℕ) → quotient (v q) n x (c + 1) o ≡ 0
      none c lc o = quotient_past (v q) n x (c + 1) o lc

-- one division after the other, all the way down and up again
module _ (v : ℕ → ℕ) (n : ℕ) (climbs : Climbs v n) (r : Polynomials) where
  pub differenced_from : DifferencedTo v n 0 r r
  differenced_from y F made = values_none v n climbs y F r made

  pub differenced_next : (q : ℕ) (r₁ r₂ : Polynomials) → q + 1 < n → DifferencedTo v n q r r₁ → Differenced v q n n r₁ r₂ → DifferencedTo v n (q + 1) r r₂
  differenced_next q r₁ r₂ l T D y F made = rw add-one (values_more v n climbs y F q r₁ r₂ (omega arith) (T y F made) D)

  pub expanded_from : 1 ≤ n → ExpandedTo v n (n - 1) r r
  expanded_from l y F D = coefficients_none v n climbs y F (n - 1) r (omega arith) D

  pub expanded_next : (q : ℕ) (r₁ r₂ : Polynomials) → 0 < q → q < n → ExpandedTo v n q r r₁ → Expanded (v (q - 1)) (q - 1) (n - 1) n r₁ r₂ → ExpandedTo v n (q - 1) r r₂
  expanded_next q r₁ r₂ l lq T E y F D = let e : q ≡ suc (q - 1) = omega arith in coefficients_more v n climbs y F (q - 1) r₁ r₂ (omega arith) (subst (λ k. Coefficients v n y k r₁) e (T y F D)) E

  -- values of the unknowns become the unknowns
  pub interpolated_is : (r₁ r₂ : Polynomials) → DifferencedTo v n (n - 1) r r₁ → ExpandedTo v n 0 r₁ r₂ → SolvedColumns v n r r₂
  unfolding quotients
  interpolated_is r₁ r₂ D E y F made b p l lp = (E y F (D y F made)).rest b p (omega arith) l lp
