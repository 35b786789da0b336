-- When the missing sources can be solved for at once: as many parities are at hand, and the shifts of both are even.
use Rattle.std.specs.Prelude.{◌≡◌, List, ℕ, ◌+◌, ◌-◌, ◌*◌, ◌≤◌, ◌<◌, length}
use Rattle.bits.specs.Sums.{at}
use Rattle.table.specs.Limits.{max_k, max_m, max_shift}
use Rattle.table.specs.Desk.{Desk}
use Rattle.walk.specs.Walk.{Gone, Held}
use Rattle.plan.specs.declared.Way.{Way}

-- the numbers of the ways: 1 by rows, 2 by columns
abbrev pub way_of : Way → ℕ
way_of Way.Rows = 1
way_of Way.Columns = 2

-- the first n of a list are the numbers of a kind, all of them, in order
pub record Listed (Kind : ℕ → Type 0) (list : List ℕ) (n : ℕ) : Type 0 where
  pub inside : (i : ℕ) → i < n → Kind (at list i)
  pub rising : (i j : ℕ) → i < j → j < n → at list i < at list j
  pub every : (c : ℕ) → Kind c → (i : ℕ) × (i < n) × (at list i ≡ c)

-- the first n rows are the parities at hand, all of them
pub record AllHeld (D : Desk) (rows : List ℕ) (n : ℕ) : Type 0 where
  pub size : length rows ≡ max_m + 1
  pub listed : Listed (Held D) rows n

module _ (D : Desk) (rows columns : List ℕ) where
  -- the shift in row i and column b of those listed
  abbrev pub listed_shift : ℕ → ℕ → ℕ
  listed_shift i b = D.shift (at rows i) (at columns b)

  module _ (n : ℕ) (v : List ℕ) where
    -- from each row to the next column b rises by v b more than column 0, and v grows from column to column
    pub record EvenRows : Type 0 where
      pub even : (i b : ℕ) → i < n → b < n → listed_shift i b + listed_shift 0 0 ≡ i * at v b + listed_shift i 0 + listed_shift 0 b
      pub rising : (b b' : ℕ) → b < b' → b' < n → at v b < at v b'
      pub room : (b : ℕ) → b < n → listed_shift 0 b + (n - 1) * at v b ≤ max_shift

    -- from each column to the next row i rises by v i more than row 0, and v grows from row to row
    pub record EvenColumns : Type 0 where
      pub even : (i b : ℕ) → i < n → b < n → listed_shift i b + listed_shift 0 0 ≡ b * at v i + listed_shift i 0 + listed_shift 0 b
      pub rising : (i i' : ℕ) → i < i' → i' < n → at v i < at v i'
      pub room : (b : ℕ) → b < n → listed_shift 0 b + b * at v (n - 1) ≤ max_shift

-- n sources are missing and n parities at hand, both listed, and their shifts are even: by rows in way 1, by columns in way 2
pub record Planned (D : Desk) (way n : ℕ) (rows columns rises : List ℕ) : Type 0 where
  pub some : 1 ≤ n
  pub held : AllHeld D rows n
  pub gone : Listed (Gone D) columns n
  pub way_low : 1 ≤ way
  pub way_high : way ≤ 2
  pub size : length rises ≡ max_k
  pub first : at rises 0 ≡ 0
  pub by_rows : way ≡ 1 → EvenRows D rows columns n rises
  pub by_columns : way ≡ 2 → EvenColumns D rows columns n rises
