-- Columns that rise evenly over the rows, in a table that may be turned: for the code's inner contracts.
use Rattle.std.specs.Prelude.{◌≡◌, Bool, true, false, List, ℕ, ◌+◌, ◌-◌, ◌*◌, ◌/◌, ◌^◌, ◌≤◌, ◌<◌, length}
use Rattle.bits.specs.Sums.{pick, at}
use Rattle.table.specs.Limits.{max_k, max_shift}
use Rattle.table.specs.Desk.{Desk}
use Rattle.table.specs.declared.desks.Desk as laid
use Rattle.plan.specs.Plan.{listed_shift}

-- the marks of the parities turned over: set where a parity is not at hand
abbrev pub turned_over : ℕ → ℕ → ℕ
turned_over k marks = 18446744073709551615 - marks / 2 ^ k

-- the first n rows and columns are parities and sources of the desk
pub record Inside (d : laid.Desk) (rows columns : List ℕ) (n : ℕ) : Type 0 where
  pub few : n ≤ max_k
  pub rows_in : (i : ℕ) → i < n → at rows i < d.m
  pub columns_in : (b : ℕ) → b < n → at columns b < d.k

-- the shift in row i and column j of those listed; turned, in row j and column i
unfoldable pub shift_at : Desk → List ℕ → List ℕ → Bool → ℕ → ℕ → ℕ
shift_at D rows columns turned i j = pick turned (listed_shift D rows columns j i) (listed_shift D rows columns i j)

module _ (t : ℕ → ℕ → ℕ) (n : ℕ) where
  -- from one row to the next column j rises by v more than column 0
  abbrev pub RisesBy : ℕ → ℕ → Type 0
  RisesBy j v = (i : ℕ) → i < n → t i j + t 0 0 ≡ i * v + t i 0 + t 0 j

  -- so the first j columns, each by more than the one before, and none by more than `last`
  pub record EvenTo (v : List ℕ) (last j : ℕ) : Type 0 where
    pub by : (b : ℕ) → b < j → RisesBy b (at v b)
    pub rising : (b b' : ℕ) → b < b' → b' < j → at v b < at v b'
    pub under : (b : ℕ) → b < j → at v b ≤ last
    pub first : at v 0 ≡ 0
    pub size : length v ≡ max_k

  -- so all n columns
  pub record Even (v : List ℕ) : Type 0 where
    pub by : (b : ℕ) → b < n → RisesBy b (at v b)
    pub rising : (b b' : ℕ) → b < b' → b' < n → at v b < at v b'
    pub first : at v 0 ≡ 0
    pub size : length v ≡ max_k

  -- from the first row to the last none of the first j columns rises past the largest shift more than column 0 does
  abbrev pub RoomTo : ℕ → Type 0
  RoomTo j = (b : ℕ) → b < j → t (n - 1) b + t 0 0 ≤ max_shift + t (n - 1) 0

  -- so all n columns
  abbrev pub HasRoom : Type 0
  HasRoom = RoomTo n

-- the way found: 1 by rows, 2 by columns
pub record Found (D : Desk) (rows columns : List ℕ) (n way : ℕ) (v : List ℕ) : Type 0 where
  pub way_low : 1 ≤ way
  pub way_high : way ≤ 2
  pub room : HasRoom (shift_at D rows columns false) n
  pub by_rows : way ≡ 1 → Even (shift_at D rows columns false) n v
  pub by_columns : way ≡ 2 → Even (shift_at D rows columns true) n v
