-- A row for each packet: the sources stand in the first k rows, what is left of parity a in row k + a.
use Rattle.std.specs.Prelude.{◌≡◌, Bool, true, cond, List, ℕ, ◌+◌, ◌*◌, ◌%◌, ◌≤◌, ◌<◌, ltb, length}
use Rattle.bits.specs.Bits.{bit_at, bytes_of, joined}
use Rattle.table.specs.Limits.{max_packets}
use Rattle.table.specs.Desk.{Desk, mark}
use Rattle.rows.specs.Rows.{row_bits, row_words, row_in}
use Rattle.code.specs.Code.{Bits}
use Rattle.survivors.specs.Packets.{came}

-- room for a row for each packet that there can be
abbrev pub Roomy : List ℕ → Type 0
Roomy rows = length rows ≡ max_packets * row_words

-- of the sources s those that are marked, noughts for the others
unfoldable pub marked_of : ℕ → Bits → Bits
marked_of marks s c p = cond (mark marks c) (s c p) 0

module _ (D : Desk) where
  open D use {k, bytes, present}

  -- bit p of source c as it stands in the rows, 0 past the sources
  unfoldable pub source_in : List ℕ → Bits
  source_in rows c p = cond (ltb c k) (row_in rows c p) 0

  -- the sources in the rows as bytes, one after another
  unfoldable pub sources_in : List ℕ → List ℕ
  sources_in rows = joined (λ c. true) (λ c. bytes_of bytes (row_in rows c)) k

  -- no source in the rows goes past its bytes
  abbrev pub InBytes : List ℕ → Type 0
  InBytes rows = (c p : ℕ) → c < k → 8 * bytes ≤ p → row_in rows c p ≡ 0

  -- each packet at hand stands in its row, and nothing else
  abbrev pub Placed : List ℕ → List ℕ → Type 0
  Placed packets rows = (i p : ℕ) → p < row_bits → row_in rows i p ≡ cond (present i) (bit_at (came D packets i) p) 0

  -- the bits h were added to the row of each parity that is on, and the sources are as they were
  pub record AddedToRests (on : ℕ → Bool) (h : Bits) (rows rows' : List ℕ) : Type 0 where
    pub rest : (a q : ℕ) → q < row_bits → row_in rows' (k + a) q ≡ (row_in rows (k + a) q + cond (on (k + a)) (h a q) 0) % 2
    pub source : (c p : ℕ) → c < k → row_in rows' c p ≡ row_in rows c p

  -- nothing is left of any parity
  abbrev pub NoRest : List ℕ → Type 0
  NoRest rows = (a q : ℕ) → row_in rows (k + a) q ≡ 0
