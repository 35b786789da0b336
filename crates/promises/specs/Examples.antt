-- The starred examples of the rules (docs/RULES.md) and some more, each on a line and by name: a call, its input and its answer. proofs/Examples proves that every answer meets its call's promise.
use Rattle.std.specs.Prelude.{◌≡◌, List, [], ◌∷◌, ◌++◌, ℕ, replicate, take}
use Rattle.table.specs.Desk.{desk, most, reach}
use Rattle.family.specs.Promise.{FamilyWritten, Judged}
use Rattle.encode.specs.Promise.{EncodedAll, PacketMeasured, ParitiesMeasured}
use Rattle.walk.specs.Promise.{Walked}
use Rattle.steps.specs.Promise.{StepsChecked}
use Rattle.rebuild.specs.Promise.{Rebuilt}
use Rattle.whole_log.specs.Promise.{LogRebuilt}
use Rattle.packet.specs.Promise.{PacketMade}
use Rattle.card.specs.Promise.{BlockTaken}
use Rattle.chain.specs.Promise.{BlocksRead, BlocksWritten}

-- a call with its input and its answer; where a call lends an output, what it held before
pub data Example : Type 0 where
  family : (k m which : ℕ) (before table : List ℕ) → Example
  largest : (k m : ℕ) (table : List ℕ) (r : ℕ) → Example
  judge : (k m : ℕ) (table : List ℕ) (growing : ℕ) → Example
  packet_length : (k m l : ℕ) (table : List ℕ) (packet bytes : ℕ) → Example
  parities-length : (k m l : ℕ) (table : List ℕ) (bytes : ℕ) → Example
  encode : (k m l : ℕ) (table sources before parities : List ℕ) → Example
  walk : (k m l : ℕ) (table : List ℕ) (marks count whole : ℕ) (progress : List ℕ) → Example
  check_steps : (k m l : ℕ) (table : List ℕ) (marks : ℕ) (parities sources : List ℕ) (number place : ℕ) → Example
  rebuild : (k m l : ℕ) (table : List ℕ) (marks : ℕ) (packets before : List ℕ) (number count : ℕ) (after : List ℕ) → Example
  rebuild_log : (k m l : ℕ) (table : List ℕ) (stripes marks : ℕ) (packets before : List ℕ) (number good count : ℕ) (after : List ℕ) → Example
  make : (k m l : ℕ) (table : List ℕ) (marks : ℕ) (packets : List ℕ) (wanted : ℕ) (before : List ℕ) (number : ℕ) (after : List ℕ) → Example
  block : (bytes before : List ℕ) (count sequence more : ℕ) (after : List ℕ) → Example
  read : (run before : List ℕ) (number count : ℕ) (after : List ℕ) → Example
  write : (packet : List ℕ) (size : ℕ) (before : List ℕ) (count : ℕ) (after : List ℕ) → Example

-- the answer, with number 0 where no other is said, meets the call's promise
abbrev pub Met : Example → Type 0
Met (family k m which before table) = FamilyWritten k m which before 0 table
Met (largest k m table r) = most m (reach (desk k m 0 table 0)) ≡ r
Met (judge k m table growing) = Judged k m table 0 growing
Met (packet_length k m l table packet bytes) = PacketMeasured k m l table packet 0 bytes
Met (parities-length k m l table bytes) = ParitiesMeasured k m l table 0 bytes
Met (encode k m l table sources before parities) = EncodedAll k m l table sources before 0 parities
Met (walk k m l table marks count whole progress) = Walked k m l table marks 0 count whole progress
Met (check_steps k m l table marks parities sources number place) = StepsChecked k m l table marks parities sources number place
Met (rebuild k m l table marks packets before number count after) = Rebuilt k m l table marks packets before number count after
Met (rebuild_log k m l table stripes marks packets before number good count after) = LogRebuilt k m l table stripes marks packets before number good count after
Met (make k m l table marks packets wanted before number after) = PacketMade k m l table marks packets wanted before number after
Met (block bytes before count sequence more after) = BlockTaken bytes before 0 count sequence more after
Met (read run before number count after) = BlocksRead run before number count after
Met (write packet size before count after) = BlocksWritten packet size before 0 count after

-- ---- tables

abbrev pub house : List ℕ
house = 0 ∷ 1 ∷ 0 ∷ 2 ∷ []

abbrev pub house3 : List ℕ
house3 = 0 ∷ 1 ∷ 2 ∷ 0 ∷ 2 ∷ 4 ∷ 0 ∷ 3 ∷ 6 ∷ []

-- of the Hankel family: three sources and four parities, four and three, eight and eight
abbrev pub hankel_tall : List ℕ
hankel_tall = 3 ∷ 1 ∷ 0 ∷ 1 ∷ 0 ∷ 0 ∷ 0 ∷ 0 ∷ 1 ∷ 0 ∷ 1 ∷ 3 ∷ []

abbrev pub hankel_wide : List ℕ
hankel_wide = 3 ∷ 1 ∷ 0 ∷ 0 ∷ 1 ∷ 0 ∷ 0 ∷ 1 ∷ 0 ∷ 0 ∷ 1 ∷ 3 ∷ []

abbrev pub hankel8 : List ℕ
hankel8 =
    21 ∷ 15 ∷ 10 ∷ 6 ∷ 3 ∷ 1 ∷ 0 ∷ 0
    ∷ 15 ∷ 10 ∷ 6 ∷ 3 ∷ 1 ∷ 0 ∷ 0 ∷ 1
    ∷ 10 ∷ 6 ∷ 3 ∷ 1 ∷ 0 ∷ 0 ∷ 1 ∷ 3
    ∷ 6 ∷ 3 ∷ 1 ∷ 0 ∷ 0 ∷ 1 ∷ 3 ∷ 6
    ∷ 3 ∷ 1 ∷ 0 ∷ 0 ∷ 1 ∷ 3 ∷ 6 ∷ 10
    ∷ 1 ∷ 0 ∷ 0 ∷ 1 ∷ 3 ∷ 6 ∷ 10 ∷ 15
    ∷ 0 ∷ 0 ∷ 1 ∷ 3 ∷ 6 ∷ 10 ∷ 15 ∷ 21
    ∷ 0 ∷ 1 ∷ 3 ∷ 6 ∷ 10 ∷ 15 ∷ 21 ∷ 28
    ∷ []

-- of the Vandermonde family: three and three
abbrev pub vandermonde3 : List ℕ
vandermonde3 = 0 ∷ 0 ∷ 0 ∷ 0 ∷ 1 ∷ 2 ∷ 0 ∷ 2 ∷ 4 ∷ []

-- rows whose largest entries differ, so that the parities differ in length
abbrev pub uneven : List ℕ
uneven = 0 ∷ 1 ∷ 0 ∷ 9 ∷ []

abbrev pub seven : List ℕ
seven = 0 ∷ 7 ∷ 0 ∷ 7 ∷ []

abbrev pub eight : List ℕ
eight = 0 ∷ 8 ∷ 0 ∷ 8 ∷ []

-- three rows of which no bit is bare
abbrev pub stuck : List ℕ
stuck = 0 ∷ 0 ∷ 5 ∷ 0 ∷ 5 ∷ 0 ∷ 5 ∷ 0 ∷ 0 ∷ []

-- ---- the examples

-- their names: the call, and what is at hand
pub data Name : Type 0 where
  family_house family-hankel-tall family-hankel-wide family-hankel-eight family_vandermonde : Name
  largest-house largest-hankel : Name
  length-low-row length-high-row lengths-uneven : Name
  encode-ones encode-high-bits encode-uneven-ones encode-uneven-high-bits : Name
  judge-house judge-seven judge-eight : Name
  walk-both-parities walk-one-parity walk-no-parity walk-seven walk-eight walk-stuck : Name
  steps-own-order steps-another-order steps-tie steps-right-length steps-one-short steps-one-more steps-seven : Name
  steps-none-missing steps-none-written steps-nought steps-unequal : Name
  rebuild-both-parities rebuild-one-parity rebuild-no-parity rebuild-high-bits : Name
  rebuild-one-above rebuild-past-the-row rebuild-no-sources rebuild-seven rebuild-eight rebuild-stuck : Name
  log-bad-stripe log-three-alike log-seven : Name
  packet-parity-of-sources packet-source-of-sources packet-lost packet-at-hand packet-no-sources packet-none-such : Name
  block-two-bytes block-two-bytes-next block-no-bytes block-first-of-two : Name
  run-of-two run-first-alone run-second-first run-byte-behind run-empty run-byte-after-more : Name
  cut-by-two cut_by_one cut-empty : Name

-- the sources of sixteen steps with the house table, and the parities of the library's own order and of another
abbrev pub stepped_sources : List ℕ
stepped_sources = 1 ∷ 1 ∷ 2 ∷ 1 ∷ 2 ∷ 1 ∷ 2 ∷ 1 ∷ 2 ∷ 1 ∷ 2 ∷ 1 ∷ 2 ∷ 1 ∷ 2 ∷ 2 ∷ []

abbrev pub own_parities : List ℕ
own_parities = 1 ∷ 2 ∷ 1 ∷ 2 ∷ 1 ∷ 2 ∷ 1 ∷ 2 ∷ 1 ∷ 2 ∷ 1 ∷ 2 ∷ 1 ∷ 2 ∷ 1 ∷ 1 ∷ []

abbrev pub other_parities : List ℕ
other_parities = 2 ∷ 2 ∷ 1 ∷ 2 ∷ 1 ∷ 2 ∷ 1 ∷ 2 ∷ 1 ∷ 2 ∷ 1 ∷ 2 ∷ 1 ∷ 2 ∷ 2 ∷ 2 ∷ []

-- both parities of the sources 01 01; with a one above the last bit of parity 2; and such that no sources encode to them
abbrev pub parities : List ℕ
parities = 0x03 ∷ 0x00 ∷ 0x05 ∷ 0x00 ∷ []

abbrev pub stray : List ℕ
stray = 0x03 ∷ 0x00 ∷ 0x05 ∷ 0x04 ∷ []

abbrev pub foreign : List ℕ
foreign = 0x03 ∷ 0x00 ∷ 0x05 ∷ 0x01 ∷ []

-- a log whose second stripe gets 10, where its third would get 9; and one of three stripes alike
abbrev pub bad_log : List ℕ
bad_log = parities ++ foreign ++ stray

abbrev pub good_log : List ℕ
good_log = parities ++ parities ++ parities

-- four bytes, five, six, nine, and twelve
abbrev pub four : List ℕ
four = 9 ∷ 9 ∷ 9 ∷ 9 ∷ []

abbrev pub five : List ℕ
five = 9 ∷ 9 ∷ 9 ∷ 9 ∷ 9 ∷ []

abbrev pub six : List ℕ
six = 9 ∷ 9 ∷ 9 ∷ 9 ∷ 9 ∷ 9 ∷ []

abbrev pub nine : List ℕ
nine = 9 ∷ 9 ∷ 9 ∷ 9 ∷ 9 ∷ 9 ∷ 9 ∷ 9 ∷ 9 ∷ []

abbrev pub twelve : List ℕ
twelve = 9 ∷ 9 ∷ 9 ∷ nine

-- two blocks, one behind the other: 01 02 with M, and 03
abbrev pub first_of_two : List ℕ
first_of_two = 0x00 ∷ 0x20 ∷ 0x02 ∷ 0x01 ∷ 0x02 ∷ 0x21 ∷ []

abbrev pub second_of_two : List ℕ
second_of_two = 0x00 ∷ 0x40 ∷ 0x01 ∷ 0x03 ∷ 0x42 ∷ []

-- bytes that a call is lent are 9; where a call has numbers k, m and L these are its first
abbrev pub example : Name → Example
example family_house = family 3 3 1 nine house3
example family-hankel-tall = family 3 4 2 twelve hankel_tall
example family-hankel-wide = family 4 3 2 twelve hankel_wide
example family-hankel-eight = family 8 8 2 (replicate 64 9) hankel8
example family_vandermonde = family 3 3 3 nine vandermonde3
example largest-house = largest 3 3 house3 6
example largest-hankel = largest 8 8 hankel8 28
example length-low-row = packet_length 2 2 1 uneven 3 2
example length-high-row = packet_length 2 2 1 uneven 4 3
example lengths-uneven = parities-length 2 2 1 uneven 5
example encode-ones = encode 2 2 1 house (0x01 ∷ 0x01 ∷ []) (9 ∷ 9 ∷ 9 ∷ 9 ∷ []) (0x03 ∷ 0x00 ∷ 0x05 ∷ 0x00 ∷ [])
example encode-high-bits = encode 2 2 1 house (0x80 ∷ 0xC0 ∷ []) (9 ∷ 9 ∷ 9 ∷ 9 ∷ []) (0x00 ∷ 0x01 ∷ 0x80 ∷ 0x03 ∷ [])
example encode-uneven-ones = encode 2 2 1 uneven (0x01 ∷ 0x01 ∷ []) five (0x03 ∷ 0x00 ∷ 0x01 ∷ 0x02 ∷ 0x00 ∷ [])
example encode-uneven-high-bits = encode 2 2 1 uneven (0x80 ∷ 0xC0 ∷ []) five (0x00 ∷ 0x01 ∷ 0x80 ∷ 0x80 ∷ 0x01 ∷ [])
example judge-house = judge 2 2 house 1
example judge-seven = judge 2 2 seven 0
example judge-eight = judge 2 2 eight 0
example walk-both-parities = walk 2 2 1 house 12 16 1 (8 ∷ 8 ∷ 0 ∷ 0 ∷ 0 ∷ 0 ∷ 0 ∷ 0 ∷ [])
example walk-one-parity = walk 2 2 1 house 9 8 1 (0 ∷ 8 ∷ 0 ∷ 0 ∷ 0 ∷ 0 ∷ 0 ∷ 0 ∷ [])
example walk-no-parity = walk 2 2 1 house 3 0 1 (0 ∷ 0 ∷ 0 ∷ 0 ∷ 0 ∷ 0 ∷ 0 ∷ 0 ∷ [])
example walk-seven = walk 2 2 1 seven 12 7 0 (7 ∷ 0 ∷ 0 ∷ 0 ∷ 0 ∷ 0 ∷ 0 ∷ 0 ∷ [])
example walk-eight = walk 2 2 1 eight 12 16 1 (8 ∷ 8 ∷ 0 ∷ 0 ∷ 0 ∷ 0 ∷ 0 ∷ 0 ∷ [])
example walk-stuck = walk 3 3 1 stuck 56 0 0 (0 ∷ 0 ∷ 0 ∷ 0 ∷ 0 ∷ 0 ∷ 0 ∷ 0 ∷ [])
example steps-own-order = check_steps 2 2 1 house 12 own_parities stepped_sources 0 0
example steps-another-order = check_steps 2 2 1 house 12 other_parities stepped_sources 0 0
-- after one bit of source 1 the next bits of both sources stand at the same place of parity 1
example steps-tie = check_steps 2 2 1 house 12 (1 ∷ 1 ∷ []) (1 ∷ 2 ∷ []) 23 2
-- as many steps as are right, all with parity 1
example steps-right-length = check_steps 2 2 1 house 12 (replicate 16 1) stepped_sources 23 2
example steps-one-short = check_steps 2 2 1 house 12 (take 15 own_parities) (take 15 stepped_sources) 24 15
example steps-one-more = check_steps 2 2 1 house 12 (own_parities ++ 1 ∷ []) (stepped_sources ++ 2 ∷ []) 23 17
-- all the steps that there are before the stall
example steps-seven = check_steps 2 2 1 seven 12 (replicate 7 1) (replicate 7 1) 24 7
example steps-none-missing = check_steps 2 2 1 house 3 [] [] 0 0
example steps-none-written = check_steps 2 2 1 house 12 [] [] 24 0
example steps-nought = check_steps 2 2 1 house 12 (0 ∷ []) (1 ∷ []) 23 1
example steps-unequal = check_steps 2 2 1 house 12 (0 ∷ []) [] 22 0
example rebuild-both-parities = rebuild 2 2 1 house 12 (0x03 ∷ 0x00 ∷ 0x05 ∷ 0x00 ∷ []) (9 ∷ 9 ∷ []) 0 16 (0x01 ∷ 0x01 ∷ [])
example rebuild-one-parity = rebuild 2 2 1 house 9 (0x01 ∷ 0x05 ∷ 0x00 ∷ []) (9 ∷ 9 ∷ []) 0 8 (0x01 ∷ 0x01 ∷ [])
example rebuild-no-parity = rebuild 2 2 1 house 3 (0x01 ∷ 0x01 ∷ []) (9 ∷ 9 ∷ []) 0 0 (0x01 ∷ 0x01 ∷ [])
-- seven unknown bits lie below the lowest one
example rebuild-high-bits = rebuild 2 2 1 house 12 (0x00 ∷ 0x01 ∷ 0x80 ∷ 0x03 ∷ []) (9 ∷ 9 ∷ []) 0 16 (0x80 ∷ 0xC0 ∷ [])
example rebuild-one-above = rebuild 2 2 1 house 12 (0x03 ∷ 0x00 ∷ 0x05 ∷ 0x04 ∷ []) (9 ∷ 9 ∷ []) 9 0 (9 ∷ 9 ∷ [])
-- parity 1 has a one above its own row's last bit but not above that of row 2
example rebuild-past-the-row = rebuild 2 2 1 house 12 (0x00 ∷ 0x02 ∷ 0x00 ∷ 0x00 ∷ []) (9 ∷ 9 ∷ []) 9 0 (9 ∷ 9 ∷ [])
example rebuild-no-sources = rebuild 2 2 1 house 12 (0x03 ∷ 0x00 ∷ 0x05 ∷ 0x01 ∷ []) (9 ∷ 9 ∷ []) 10 0 (9 ∷ 9 ∷ [])
example rebuild-seven = rebuild 2 2 1 seven 12 (0x03 ∷ 0x00 ∷ 0x05 ∷ 0x00 ∷ []) (9 ∷ 9 ∷ []) 8 7 (9 ∷ 9 ∷ [])
example rebuild-eight = rebuild 2 2 1 eight 12 (0x01 ∷ 0x01 ∷ 0x01 ∷ 0x01 ∷ []) (9 ∷ 9 ∷ []) 0 16 (0x01 ∷ 0x01 ∷ [])
example rebuild-stuck = rebuild 3 3 1 stuck 56 (1 ∷ 2 ∷ 3 ∷ 4 ∷ 5 ∷ 6 ∷ []) (9 ∷ 9 ∷ 9 ∷ []) 8 0 (9 ∷ 9 ∷ 9 ∷ [])
-- the sources of stripe 1 are written, and nothing behind them
example log-bad-stripe = rebuild_log 2 2 1 house 3 12 bad_log six 10 1 0 (0x01 ∷ 0x01 ∷ four)
example log-three-alike = rebuild_log 2 2 1 house 3 12 good_log six 0 3 16 (0x01 ∷ 0x01 ∷ 0x01 ∷ 0x01 ∷ 0x01 ∷ 0x01 ∷ [])
example log-seven = rebuild_log 2 2 1 seven 2 12 (parities ++ parities) four 8 0 7 four
example packet-parity-of-sources = make 2 2 1 house 3 (0x80 ∷ 0xC0 ∷ []) 4 (9 ∷ 9 ∷ []) 0 (0x80 ∷ 0x03 ∷ [])
example packet-source-of-sources = make 2 2 1 house 3 (0x80 ∷ 0xC0 ∷ []) 2 (9 ∷ []) 0 (0xC0 ∷ [])
example packet-lost = make 2 2 1 house 12 (0x00 ∷ 0x01 ∷ 0x80 ∷ 0x03 ∷ []) 1 (9 ∷ []) 0 (0x80 ∷ [])
example packet-at-hand = make 2 2 1 house 12 (0x00 ∷ 0x01 ∷ 0x80 ∷ 0x03 ∷ []) 3 (9 ∷ 9 ∷ []) 0 (0x00 ∷ 0x01 ∷ [])
-- packet 3 came as it was sent, but no sources encode to it and to packet 4
example packet-no-sources = make 2 2 1 house 12 (0x03 ∷ 0x00 ∷ 0x05 ∷ 0x01 ∷ []) 3 (9 ∷ 9 ∷ []) 10 (9 ∷ 9 ∷ [])
example packet-none-such = make 2 2 1 house 3 (0x80 ∷ 0xC0 ∷ []) 5 (9 ∷ 9 ∷ []) 6 (9 ∷ 9 ∷ [])
example block-two-bytes = block (0x00 ∷ 0x00 ∷ 0x02 ∷ 0xAA ∷ 0x55 ∷ 0xFD ∷ []) (1 ∷ 2 ∷ 3 ∷ 4 ∷ []) 2 0 0 (0xAA ∷ 0x55 ∷ 3 ∷ 4 ∷ [])
example block-two-bytes-next = block (0x00 ∷ 0x40 ∷ 0x02 ∷ 0xAA ∷ 0x55 ∷ 0xBD ∷ []) (1 ∷ 2 ∷ 3 ∷ 4 ∷ []) 2 1 0 (0xAA ∷ 0x55 ∷ 3 ∷ 4 ∷ [])
example block-no-bytes = block (0x00 ∷ 0x00 ∷ 0x00 ∷ 0x00 ∷ []) (1 ∷ 2 ∷ 3 ∷ 4 ∷ []) 0 0 0 (1 ∷ 2 ∷ 3 ∷ 4 ∷ [])
example block-first-of-two = block first_of_two (1 ∷ 2 ∷ 3 ∷ 4 ∷ []) 2 0 1 (0x01 ∷ 0x02 ∷ 3 ∷ 4 ∷ [])
example run-of-two = read (first_of_two ++ second_of_two) twelve 0 3 (0x01 ∷ 0x02 ∷ 0x03 ∷ nine)
-- M is set, and nothing comes behind it; N(S) is 1 in the first block; a byte behind the last block
example run-first-alone = read first_of_two twelve 21 0 twelve
example run-second-first = read second_of_two twelve 20 0 twelve
example run-byte-behind = read (0x00 ∷ 0x00 ∷ 0x00 ∷ 0x00 ∷ 0x00 ∷ []) twelve 21 0 twelve
-- no block at all; a byte behind a block with M is the next block's
example run-empty = read [] twelve 11 0 twelve
example run-byte-after-more = read (first_of_two ++ 0x00 ∷ []) twelve 11 0 twelve
example cut-by-two = write (0x01 ∷ 0x02 ∷ 0x03 ∷ []) 2 twelve 11 (first_of_two ++ second_of_two ++ 9 ∷ [])
example cut_by_one =
    write (0xAA ∷ 0x55 ∷ []) 1 twelve 10 (0x00 ∷ 0x20 ∷ 0x01 ∷ 0xAA ∷ 0x8B ∷ 0x00 ∷ 0x40 ∷ 0x01 ∷ 0x55 ∷ 0x14 ∷ 9 ∷ 9 ∷ [])
example cut-empty = write [] 32 twelve 4 (0x00 ∷ 0x00 ∷ 0x00 ∷ 0x00 ∷ 9 ∷ 9 ∷ 9 ∷ 9 ∷ 9 ∷ 9 ∷ 9 ∷ 9 ∷ [])

-- the one list
abbrev pub examples : List Name
examples =
    family_house
    ∷ family-hankel-tall
    ∷ family-hankel-wide
    ∷ family-hankel-eight
    ∷ family_vandermonde
    ∷ largest-house
    ∷ largest-hankel
    ∷ length-low-row
    ∷ length-high-row
    ∷ lengths-uneven
    ∷ encode-ones
    ∷ encode-high-bits
    ∷ encode-uneven-ones
    ∷ encode-uneven-high-bits
    ∷ judge-house
    ∷ judge-seven
    ∷ judge-eight
    ∷ walk-both-parities
    ∷ walk-one-parity
    ∷ walk-no-parity
    ∷ walk-seven
    ∷ walk-eight
    ∷ walk-stuck
    ∷ steps-own-order
    ∷ steps-another-order
    ∷ steps-tie
    ∷ steps-right-length
    ∷ steps-one-short
    ∷ steps-one-more
    ∷ steps-seven
    ∷ steps-none-missing
    ∷ steps-none-written
    ∷ steps-nought
    ∷ steps-unequal
    ∷ rebuild-both-parities
    ∷ rebuild-one-parity
    ∷ rebuild-no-parity
    ∷ rebuild-high-bits
    ∷ rebuild-one-above
    ∷ rebuild-past-the-row
    ∷ rebuild-no-sources
    ∷ rebuild-seven
    ∷ rebuild-eight
    ∷ rebuild-stuck
    ∷ log-bad-stripe
    ∷ log-three-alike
    ∷ log-seven
    ∷ packet-parity-of-sources
    ∷ packet-source-of-sources
    ∷ packet-lost
    ∷ packet-at-hand
    ∷ packet-no-sources
    ∷ packet-none-such
    ∷ block-two-bytes
    ∷ block-two-bytes-next
    ∷ block-no-bytes
    ∷ block-first-of-two
    ∷ run-of-two
    ∷ run-first-alone
    ∷ run-second-first
    ∷ run-byte-behind
    ∷ run-empty
    ∷ run-byte-after-more
    ∷ cut-by-two
    ∷ cut_by_one
    ∷ cut-empty
    ∷ []

-- every answer of a list of examples meets its call's promise
abbrev pub AllMet : List Name → Type 0
AllMet [] = Unit
AllMet (n ∷ ns) = Met (example n) × AllMet ns

abbrev pub ExamplesMet : Type 0
ExamplesMet = AllMet examples
