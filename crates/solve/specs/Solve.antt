-- Rows made of unknowns, and what solving for the unknowns in place does to them. Bits are a polynomial in z, `up e` is times z ^ e, and w b is z ^ v b.
use Rattle.std.specs.Prelude.{◌≡◌, ◌≢◌, List, ℕ, ◌+◌, ◌-◌, ◌*◌, ◌%◌, ◌≤◌, ◌<◌, length}
use Rattle.bits.specs.Sums.{at, sum}
use Rattle.bits.specs.Bits.{up}
use Rattle.table.specs.Limits.{max_shift}
use Rattle.rows.specs.Rows.{row_bits, row_in, HasRow}

-- rows or unknowns: bit p of the i-th
abbrev pub Polynomials : Type 0
Polynomials = ℕ → ℕ → ℕ

-- row i made of n unknowns: the sum over b of w b ^ i · y b, or the sum over b of w i ^ b · y b
unfoldable pub even_row : (ℕ → ℕ) → ℕ → Polynomials → Polynomials
even_row v n y i p = sum n (λ b. up (i * v b) (y b) p) % 2

unfoldable pub even_column : (ℕ → ℕ) → ℕ → Polynomials → Polynomials
even_column v n y i p = sum n (λ b. up (b * v i) (y b) p) % 2

-- how far unknown b is shifted up at most
unfoldable pub row_rise : (ℕ → ℕ) → ℕ → ℕ → ℕ
row_rise v n b = (n - 1) * v b

unfoldable pub column_rise : (ℕ → ℕ) → ℕ → ℕ → ℕ
column_rise v n b = b * v (n - 1)

-- n unknowns are bits, and within a row even where they are shifted up most
pub record Fit (n : ℕ) (rise : ℕ → ℕ) (y : Polynomials) : Type 0 where
  pub bits : (b p : ℕ) → b < n → y b p < 2
  pub clear : (b p : ℕ) → b < n → row_bits ≤ p + rise b → y b p ≡ 0

-- the first n of r and of s have the same bits
abbrev pub Same : ℕ → Polynomials → Polynomials → Type 0
Same n r s = (i p : ℕ) → i < n → p < row_bits → r i p ≡ s i p

-- n rows made of unknowns became these unknowns
abbrev pub Solved : ℕ → (ℕ → ℕ) → (Polynomials → Polynomials) → Polynomials → Polynomials → Type 0
Solved n rise made r r' = (y : Polynomials) → Fit n rise y → Same n r (made y) → Same n r' y

abbrev pub SolvedRows : (ℕ → ℕ) → ℕ → Polynomials → Polynomials → Type 0
SolvedRows v n = Solved n (row_rise v n) (even_row v n)

abbrev pub SolvedColumns : (ℕ → ℕ) → ℕ → Polynomials → Polynomials → Type 0
SolvedColumns v n = Solved n (column_rise v n) (even_column v n)

-- n of the rows, one at least, have each a place of their own
pub record HasPlaces (place : List ℕ) (n : ℕ) (rows : List ℕ) : Type 0 where
  pub some : 1 ≤ n
  pub listed : n ≤ length place
  pub has : (i : ℕ) → i < n → HasRow rows (at place i)
  pub apart : (i j : ℕ) → i < n → j < n → i ≢ j → at place i ≢ at place j

-- the first n exponents rise
abbrev pub Climbs : (ℕ → ℕ) → ℕ → Type 0
Climbs v n = (i j : ℕ) → i < j → j < n → v i < v j

-- n exponents rise, up to the largest shift
pub record Rising (rises : List ℕ) (n : ℕ) : Type 0 where
  pub listed : n ≤ length rises
  pub climbs : Climbs (at rises) n
  pub most : (i : ℕ) → i < n → at rises i ≤ max_shift

-- the rows at the places
abbrev pub placed : List ℕ → List ℕ → Polynomials
placed place rows i = row_in rows (at place i)

-- the rows at n places changed so, and every other row is as it was
pub record Changed (so : Polynomials → Polynomials → Type 0) (place : List ℕ) (n : ℕ) (rows rows' : List ℕ) : Type 0 where
  pub here : so (placed place rows) (placed place rows')
  pub others : (c p : ℕ) → ((i : ℕ) → i < n → at place i ≢ c) → row_in rows' c p ≡ row_in rows c p

-- f, z ^ e + z ^ h times some y, became y, if all of that is within a row
abbrev pub Freed : ℕ → ℕ → (ℕ → ℕ) → (ℕ → ℕ) → Type 0
Freed e h f f' = (y : ℕ → ℕ) → ((p : ℕ) → y p < 2) → ((p : ℕ) → row_bits ≤ p + h → y p ≡ 0)
    → ((p : ℕ) → p < row_bits → f p ≡ (up e y p + up h y p) % 2) → (p : ℕ) → p < row_bits → f' p ≡ y p
