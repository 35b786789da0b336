-- The missing sources solved for at once: the rows that are solved, and the sources made of what comes out. Row i is the i-th parity at hand, unknown b the b-th missing source.
use Rattle.std.specs.Prelude.{◌≡◌, ◌≢◌, cond, List, ℕ, ◌+◌, ◌*◌, ◌≤◌, ◌<◌, ltb}
use Rattle.bits.specs.Sums.{at}
use Rattle.bits.specs.Bits.{up}
use Rattle.table.specs.Desk.{Desk}
use Rattle.rows.specs.Rows.{row_in, HasRow}
use Rattle.plan.specs.Plan.{listed_shift}
use Rattle.solve.specs.Solve.{Polynomials, Same, Changed, SolvedRows, SolvedColumns}

-- the rows at n places became f, and every other row is as it was
abbrev pub AllBecame : Polynomials → List ℕ → ℕ → List ℕ → List ℕ → Type 0
AllBecame f place n = Changed (λ _ r. Same n r f) place n

-- the first n places are rows, each another one
pub record Sited (place : List ℕ) (n : ℕ) (rows : List ℕ) : Type 0 where
  pub some : 1 ≤ n
  pub has : (i : ℕ) → i < n → HasRow rows (at place i)
  pub apart : (i j : ℕ) → i < n → j < n → i ≢ j → at place i ≢ at place j

-- n rows were solved in a way of a plan
pub record SolvedBy (way : ℕ) (v : ℕ → ℕ) (n : ℕ) (r r' : Polynomials) : Type 0 where
  pub by_rows : way ≡ 1 → SolvedRows v n r r'
  pub by_columns : way ≡ 2 → SolvedColumns v n r r'

module _ (D : Desk) (held columns rows : List ℕ) where
  -- what is left of a parity, with the first missing source where it stands in the first parity at hand
  abbrev pub loaded : Polynomials
  loaded i p = up (listed_shift D held columns 0 0) (row_in rows (D.k + at held i)) (listed_shift D held columns i 0 + p)

  -- an unknown, which is as a missing source stands in the first parity at hand: shifted down to its place, and cut to its bytes
  abbrev pub unloaded : Polynomials
  unloaded b p = cond (ltb p (8 * D.bytes)) (row_in rows (at columns b) (listed_shift D held columns 0 b + p)) 0
