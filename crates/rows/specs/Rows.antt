-- Rows of bits in words of 64, one row after another. A row has room for the longest parity.
use Rattle.std.specs.Prelude.{◌≡◌, ℕ, ◌+◌, ◌*◌, ◌/◌, ◌%◌, ◌<◌, ◌≤◌, cond, ◌≢◌, List, length, nat_lt}
use Rattle.bits.specs.Sums.{at, one_at}
use Rattle.bits.specs.Bits.{bit, bit_at, up}
use Rattle.table.specs.Limits.{longest}

-- the bits and the words of a row
abbrev pub row_bits : ℕ
row_bits = 8 * longest

abbrev pub row_words : ℕ
row_words = longest / 8

-- bit p of row a; 0 past the row's end
unfoldable pub row_in : List ℕ → ℕ → ℕ → ℕ
row_in rows a p = cond (nat_lt p row_bits) (bit (at rows (a * row_words + p / 64)) (p % 64)) 0

-- row a is one of the rows
abbrev pub HasRow : List ℕ → ℕ → Type 0
HasRow rows a = a * row_words + row_words ≤ length rows

-- row a became f, and every other row is as it was
pub record Became (a : ℕ) (f : ℕ → ℕ) (rows rows' : List ℕ) : Type 0 where
  pub here : (p : ℕ) → p < row_bits → row_in rows' a p ≡ f p
  pub others : (c p : ℕ) → a ≢ c → row_in rows' c p ≡ row_in rows c p

-- the bits f were added to row a
abbrev pub AddedTo : ℕ → (ℕ → ℕ) → List ℕ → List ℕ → Type 0
AddedTo a f rows rows' = (c p : ℕ) → p < row_bits → row_in rows' c p ≡ (row_in rows c p + one_at a c * f p) % 2

-- row a, 1 + z ^ d times some y, became y: bits are a polynomial in z, and `up d` is times z ^ d
pub record Halved (a d : ℕ) (rows rows' : List ℕ) : Type 0 where
  pub here : (y : ℕ → ℕ) → ((p : ℕ) → y p < 2) → ((p : ℕ) → p < row_bits → row_in rows a p ≡ (y p + up d y p) % 2) → (p : ℕ) → p < row_bits → row_in rows' a p ≡ y p
  pub others : (c p : ℕ) → a ≢ c → row_in rows' c p ≡ row_in rows c p

-- row a, z ^ e + z ^ (e + d) times some y, became y, if all of that is within the row
pub record Divided (a e d : ℕ) (rows rows' : List ℕ) : Type 0 where
  pub here : (y : ℕ → ℕ) → ((p : ℕ) → y p < 2) → ((p : ℕ) → row_bits ≤ p + (e + d) → y p ≡ 0)
      → ((p : ℕ) → p < row_bits → row_in rows a p ≡ (up e y p + up (e + d) y p) % 2) → (p : ℕ) → p < row_bits → row_in rows' a p ≡ y p
  pub others : (c p : ℕ) → a ≢ c → row_in rows' c p ≡ row_in rows c p

-- n bytes from byte `from` on became f, and the others are as they were
pub record Stored (from n : ℕ) (f : ℕ → ℕ) (bytes bytes' : List ℕ) : Type 0 where
  pub size : length bytes' ≡ length bytes
  pub here : (p : ℕ) → p < 8 * n → bit_at bytes' (8 * from + p) ≡ f p
  pub below : (p : ℕ) → p < 8 * from → bit_at bytes' p ≡ bit_at bytes p
  pub above : (p : ℕ) → 8 * (from + n) ≤ p → bit_at bytes' p ≡ bit_at bytes p
