-- What lies on the desk: k sources, m parities, the shift table and the packets at hand; and what follows from them, the bits, the bytes and the place of each packet.
-- Sources, parities and packets are counted from 0: packets 0 to k − 1 are the sources, k to k + m − 1 the parities.
use Rattle.std.specs.Prelude.{Bool, cond, List, ℕ, zero, suc, ◌+◌, ◌-◌, ◌*◌, ◌/◌, ◌%◌, ◌^◌, ◌<◌, leb, ltb, eqb}
use Rattle.bits.specs.Sums.{pick, at, sum}

pub record Desk : Type 0 where
  pub k : ℕ
  pub m : ℕ
  -- the bits of a source, and the bytes that hold them
  pub bits : ℕ
  pub bytes : ℕ
  -- the shift of parity a and source b
  pub shift : ℕ → ℕ → ℕ
  -- whether packet i is present
  pub present : ℕ → Bool

-- the shift in row a and column b of a table of k columns, row by row; 0 past its columns
unfoldable pub entry : ℕ → List ℕ → ℕ → ℕ → ℕ
entry k table a b = cond (ltb b k) (at table (a * k + b)) 0

-- whether the mark of packet i is set: the lowest is packet 0's
abbrev pub mark : ℕ → ℕ → Bool
mark marks i = eqb (marks / 2 ^ i % 2) 1

-- the least whole number of bytes that holds n bits
abbrev pub bytes_for : ℕ → ℕ
bytes_for n = (n + 7) / 8

-- the bits of a source of length l, and its bytes
abbrev pub source_bits : ℕ → ℕ
source_bits l = 8 * l

abbrev pub source_bytes : ℕ → ℕ
source_bytes l = l

-- the desk of a call's numbers, table and marks
abbrev pub desk : ℕ → ℕ → ℕ → List ℕ → ℕ → Desk
desk k m l table marks =
    record { k = k; m = m; bits = source_bits l; bytes = source_bytes l; shift = entry k table; present = mark marks }

-- the largest of the first n values of f
unfoldable pub most : ℕ → (ℕ → ℕ) → ℕ
most zero f = 0
most (suc n) f = pick (leb (f n) (most n f)) (most n f) (f n)

module _ (D : Desk) where
  open D use {k, m, bits, bytes, shift, present}

  -- the bytes of all sources, one after another; the first bit of source c among them
  abbrev pub sources_bytes : ℕ
  sources_bytes = k * bytes

  abbrev pub source_place : ℕ → ℕ
  source_place c = c * (8 * bytes)

  -- how far parity a shifts its sources up: the largest entry of its row
  unfoldable pub reach : ℕ → ℕ
  reach a = most k (shift a)

  -- the bits of packet i
  unfoldable pub packet_bits : ℕ → ℕ
  packet_bits i = cond (ltb i k) bits (bits + reach (i - k))

  -- the bytes of packet i
  unfoldable pub packet_bytes : ℕ → ℕ
  packet_bytes i = cond (ltb i k) bytes (bytes_for (packet_bits i))

  -- where packet i stands among the packets that are on, one after another with no gaps
  unfoldable pub place_of : (ℕ → Bool) → ℕ → ℕ
  place_of on i = sum i (λ j. cond (on j) (packet_bytes j) 0)

  -- the bytes of all parities, and of the packets at hand
  abbrev pub parities_bytes : ℕ
  parities_bytes = place_of (leb k) (k + m)

  abbrev pub survivors_bytes : ℕ
  survivors_bytes = place_of present (k + m)

-- growing differences: for rows a < a' and columns b < b', shift a b' − shift a b is less than shift a' b' − shift a' b
abbrev pub Grows : Desk → Type 0
Grows D =
    (a a' b b' : ℕ) → a < a' → a' < D.m → b < b' → b' < D.k → D.shift a b' + D.shift a' b < D.shift a' b' + D.shift a b
