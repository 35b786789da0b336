-- Even columns: the unknowns are the coefficients of a polynomial in x, and row i is its value at w i. The rows become divided differences, and these the coefficients.
use Rattle.std.specs.Prelude.{◌≡◌, ℕ, zero, suc, ◌+◌, ◌-◌, ◌%◌, ◌≤◌, ◌<◌}
use Rattle.bits.specs.Bits.{up}
use Rattle.rows.specs.Rows.{row_bits}
use Rattle.solve.specs.Solve.{Polynomials, even_column, column_rise, Fit, Same, Freed}

-- row q was added to each row i from row q + 1 to row m - 1, and that was divided by w q + w i
pub record Differenced (v : ℕ → ℕ) (q m n : ℕ) (r r' : Polynomials) : Type 0 where
  pub after : (i : ℕ) → q < i → i < m → Freed (v q) (v i) (λ p. (r i p + r q p) % 2) (r' i)
  pub still : (i p : ℕ) → i < n → (q < i → m ≤ i) → r' i p ≡ r i p

-- to each row from row q to row m - 1, z ^ e times the row after it was added
pub record Expanded (e q m n : ℕ) (r r' : Polynomials) : Type 0 where
  pub after : (b p : ℕ) → q ≤ b → b < m → p < row_bits → r' b p ≡ (r b p + up e (r (b + 1)) p) % 2
  pub still : (b p : ℕ) → b < n → (q ≤ b → m ≤ b) → r' b p ≡ r b p

-- the value at z ^ e of the k coefficients from the c-th on
unfoldable pub value : ℕ → Polynomials → ℕ → ℕ → ℕ → ℕ
value e y c zero p = 0
value e y c (suc k) p = (y c p + up e (value e y (suc c) k) p) % 2

-- n coefficients divided by x + z ^ e: the value of all of them is the remainder, and the values of those from each later one on are the quotient's coefficients
unfoldable pub quotient : ℕ → ℕ → Polynomials → Polynomials
quotient e n y c = value e y c (n - c)

-- the coefficients divided by x + w 0, their quotient by x + w 1, and so on, q times; what is left of them begins at the q-th
unfoldable pub quotients : (ℕ → ℕ) → ℕ → Polynomials → ℕ → Polynomials
quotients v n y zero = y
quotients v n y (suc q) = quotient (v q) n (quotients v n y q)

-- r has the remainders of q divisions
abbrev pub Remainders : (ℕ → ℕ) → ℕ → Polynomials → ℕ → Polynomials → Type 0
Remainders v n y q r = Same q r (λ i. quotients v n y (suc i) i)

-- after q divisions the rest of the rows are values of the quotient
pub record Values (v : ℕ → ℕ) (n : ℕ) (y : Polynomials) (q : ℕ) (r : Polynomials) : Type 0 where
  pub remainders : Remainders v n y q r
  pub rest : (i p : ℕ) → q ≤ i → i < n → p < row_bits → r i p ≡ value (v i) (quotients v n y q) q (n - q) p

-- rows that unknowns make became the remainders of q divisions, and values
abbrev pub DifferencedTo : (ℕ → ℕ) → ℕ → ℕ → Polynomials → Polynomials → Type 0
DifferencedTo v n q r r' = (y : Polynomials) → Fit n (column_rise v n) y → Same n r (even_column v n y) → Values v n y q r'
