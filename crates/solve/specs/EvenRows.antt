-- Even rows: row i is the sum over b of w b ^ i · y b. One unknown after the other is eliminated, and restored from the last one on.
use Rattle.std.specs.Prelude.{◌≡◌, ◌≢◌, ℕ, zero, suc, ◌+◌, ◌-◌, ◌%◌, ◌≤◌, ◌<◌}
use Rattle.bits.specs.Sums.{sum}
use Rattle.bits.specs.Bits.{up}
use Rattle.rows.specs.Rows.{row_bits}
use Rattle.solve.specs.Solve.{Polynomials, even_row, row_rise, Fit, Same, Freed}

-- to each row after row m, z ^ e times the row before was added
pub record Eliminated (e m n : ℕ) (r r' : Polynomials) : Type 0 where
  pub after : (i p : ℕ) → m < i → i < n → p < row_bits → r' i p ≡ (r i p + up e (r (i - 1)) p) % 2
  pub still : (i p : ℕ) → i < n → i ≤ m → r' i p ≡ r i p

-- each row b from row q + 1 to row m - 1 was divided by w q + w b, and then added to row q
pub record Restored (v : ℕ → ℕ) (q m n : ℕ) (r r' : Polynomials) : Type 0 where
  pub after : (b : ℕ) → q < b → b < m → Freed (v q) (v b) (r b) (r' b)
  pub first : (p : ℕ) → p < row_bits → r' q p ≡ (r q p + sum (m - (q + 1)) (λ c. r' (q + 1 + c) p)) % 2
  pub still : (i p : ℕ) → i < n → i ≢ q → (q < i → m ≤ i) → r' i p ≡ r i p

-- unknown b times w q + w b
unfoldable pub raise : (ℕ → ℕ) → ℕ → Polynomials → Polynomials
raise v q y b p = (up (v q) (y b) p + up (v b) (y b) p) % 2

-- the unknowns that are left in the rows once q of them were eliminated
unfoldable pub raised : (ℕ → ℕ) → Polynomials → ℕ → Polynomials
raised v y zero = y
raised v y (suc q) = raise v q (raised v y q)

-- r has the first row of what was left before each of q eliminations
abbrev pub Firsts : (ℕ → ℕ) → ℕ → Polynomials → ℕ → Polynomials → Type 0
Firsts v n y q r = Same q r (λ i. even_row v n (raised v y i) 0)

-- q unknowns are eliminated, and the rest of the rows are made of those that are left
pub record Reduced (v : ℕ → ℕ) (n : ℕ) (y : Polynomials) (q : ℕ) (r : Polynomials) : Type 0 where
  pub firsts : Firsts v n y q r
  pub rest : (i p : ℕ) → q ≤ i → i < n → p < row_bits → r i p ≡ even_row v n (raised v y q) (i - q) p

-- of rows that unknowns make, q unknowns were eliminated
abbrev pub EliminatedTo : (ℕ → ℕ) → ℕ → ℕ → Polynomials → Polynomials → Type 0
EliminatedTo v n q r r' = (y : Polynomials) → Fit n (row_rise v n) y → Same n r (even_row v n y) → Reduced v n y q r'
