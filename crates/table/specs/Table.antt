-- The tables of the code, what they stand for, and what holds of the numbers and shifts of a desk.
use Rattle.std.specs.Prelude.{◌≡◌, Bool, cond, not, ◌&&◌, List, ℕ, ◌+◌, ◌*◌, ◌/◌, ◌%◌, ◌≤◌, ◌<◌, ltb}
use Rattle.bits.specs.Sums.{at}
use Rattle.table.specs.Limits.{max_k, max_m, max_length, max_shift, cells}
use Rattle.table.specs.Desk.{entry, most, mark, source_bits}
use Rattle.table.specs.Family.{house_shift, family_shift}
use Rattle.table.specs.declared.Table.{Table}

-- cell i of the full sheet, eight to a row
abbrev pub house_cell : ℕ → ℕ
house_cell i = house_shift (i / max_k + 1) (i % max_k + 1)

-- cell i of a family's table, laid out as the full sheet is
abbrev pub family_cell : ℕ → ℕ → ℕ → ℕ → ℕ
family_cell family k m i = family_shift family k m (i / max_k + 1) (i % max_k + 1)

-- the shift in row a and column b of shifts laid out as the full sheet is, eight to a row, of which k columns count
unfoldable pub laid_out : ℕ → List ℕ → ℕ → ℕ → ℕ
laid_out k shifts a b = cond (ltb b k) (at shifts (a * max_k + b)) 0

-- the progress that source c may have: up to its bits where it is missing, else none
unfoldable pub room_of : ℕ → ℕ → ℕ → ℕ → ℕ
room_of k l marks c = cond (ltb c k && not (mark marks c)) (source_bits l) 0

-- numbers and shifts within their limits
pub record Within (k m length : ℕ) (shifts : List ℕ) : Type 0 where
  pub k_low : 1 ≤ k
  pub k_high : k ≤ max_k
  pub m_low : 1 ≤ m
  pub m_high : m ≤ max_m
  pub l_low : 1 ≤ length
  pub l_high : length ≤ max_length
  pub low : (i : ℕ) → at shifts i ≤ max_shift

-- the reach of each parity, the largest shift of its row, in its place
abbrev pub Measured : ℕ → ℕ → List ℕ → List ℕ → Type 0
Measured k m shifts reaches = (a : ℕ) → a < m → at reaches a ≡ most k (laid_out k shifts a)

-- t holds the table: k columns, m rows, its shifts laid out eight to a row, none above the limit
pub record Holds (k m : ℕ) (table : List ℕ) (t : Table) : Type 0 where
  pub k_is : t.k ≡ k
  pub m_is : t.m ≡ m
  pub laid : laid_out k t.shifts ≡ entry k table
  pub low : (i : ℕ) → at t.shifts i ≤ max_shift

-- of row a of a table of k columns n entries were laid out, and the other cells are as they were
pub record RowLaid (k : ℕ) (table : List ℕ) (a n : ℕ) (shifts shifts' : List ℕ) : Type 0 where
  pub laid : (b : ℕ) → b < n → at shifts' (a * max_k + b) ≡ at table (a * k + b)
  pub before : (i : ℕ) → i < a * max_k → at shifts' i ≡ at shifts i
  pub after : (i : ℕ) → a * max_k + n ≤ i → at shifts' i ≡ at shifts i

-- t is a family's table: k columns, m rows, its shifts laid out eight to a row
pub record OfFamily (family k m : ℕ) (t : Table) : Type 0 where
  pub k_is : t.k ≡ k
  pub m_is : t.m ≡ m
  pub cells_are : (i : ℕ) → i < cells → at t.shifts i ≡ family_cell family k m i

-- r is the first packet from i on, below n, whose mark is v; or n where there is none
pub record NextMark (v : Bool) (marks i n r : ℕ) : Type 0 where
  pub from : i ≤ r
  pub most : r ≤ n
  pub passed : (c : ℕ) → i ≤ c → c < r → mark marks c ≡ not v
  pub found : r < n → mark marks r ≡ v
