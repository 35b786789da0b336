-- Words of 64 bits, each divided by itself.
use Rattle.std.specs.Prelude.{◌≡◌, ℕ, ◌+◌, ◌*◌, ◌%◌, ◌<◌, ◌≢◌, List}
use Rattle.bits.specs.Sums.{at}
use Rattle.bits.specs.Bits.{bit, up}
use Rattle.rows.specs.Rows.{row_words, row_in}

-- word x is 1 + z ^ d times word r, as far as a word goes
abbrev pub Twice : ℕ → ℕ → ℕ → Type 0
Twice d x r = (t : ℕ) → t < 64 → bit x t ≡ (bit r t + up d (bit r) t) % 2

-- each word x of row a became one that it is R to, and every other row is as it was
pub record EachWord (a : ℕ) (R : ℕ → ℕ → Type 0) (rows rows' : List ℕ) : Type 0 where
  pub here : (c : ℕ) → c < row_words → R (at rows (a * row_words + c)) (at rows' (a * row_words + c))
  pub others : (c p : ℕ) → a ≢ c → row_in rows' c p ≡ row_in rows c p
