-- The limits of the rules (docs/RULES.md). `Table::limits` ties them to the constants of the code.
use Rattle.std.specs.Prelude.{◌≡◌, List, ℕ, ◌+◌, ◌*◌, replicate}
use Rattle.table.specs.Desk.{source_bits, source_bytes, bytes_for}

-- the most sources and parities, the length of the longest source, and the largest shift
abbrev pub max_k : ℕ
max_k = 8

abbrev pub max_m : ℕ
max_m = 8

abbrev pub max_length : ℕ
max_length = 56

abbrev pub max_shift : ℕ
max_shift = 64

-- the families of shift tables are 1 to this
abbrev pub max_family : ℕ
max_family = 3

-- the most stripes of a logbook
abbrev pub max_stripes : ℕ
max_stripes = 16

-- the cells of the full sheet
abbrev pub cells : ℕ
cells = max_m * max_k

-- the most packets
abbrev pub max_packets : ℕ
max_packets = max_k + max_m

-- the bits and bytes of the longest source, and the bytes of as many as there can be
abbrev pub max_bits : ℕ
max_bits = source_bits max_length

abbrev pub max_bytes : ℕ
max_bytes = source_bytes max_length

abbrev pub all_sources : ℕ
all_sources = max_k * max_bytes

-- the bytes of the longest parity
abbrev pub longest : ℕ
longest = bytes_for (max_bits + max_shift)

-- a nought for each source that there can be
abbrev pub noughts : List ℕ
noughts = replicate max_k 0

pub record Limited (sources parities length shift families stripes : ℕ) : Type 0 where
  pub sources_are : sources ≡ max_k
  pub parities_are : parities ≡ max_m
  pub length_is : length ≡ max_length
  pub shift_is : shift ≡ max_shift
  pub families_are : families ≡ max_family
  pub stripes_are : stripes ≡ max_stripes
