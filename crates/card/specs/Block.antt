-- One T=1 block of ISO/IEC 7816-3: NAD, PCB, LEN, the information bytes, LRC.
use Rattle.std.specs.Prelude.{◌≡◌, ◌⊎◌, List, [], ◌∷◌, ◌++◌, ℕ, ◌+◌, ◌*◌, ◌/◌, ◌%◌, ◌≤◌, ◌<◌, length}
use Rattle.bits.specs.Sums.{at}
use Rattle.bits.specs.Bits.{slice, xor_of}
use Rattle.table.specs.Checks.{Checks}

-- the bytes of a block by their place
abbrev pub nad : List ℕ → ℕ
nad block = at block 0

abbrev pub pcb : List ℕ → ℕ
pcb block = at block 1

abbrev pub len : List ℕ → ℕ
len block = at block 2

abbrev pub information : List ℕ → List ℕ
information block = slice block 3 (len block)

-- N(S), the send-sequence bit, and M, the more-data bit: 40 and 20 hex of the PCB
abbrev pub sequence_of : List ℕ → ℕ
sequence_of block = pcb block / 0x40 % 2

abbrev pub more_of : List ℕ → ℕ
more_of block = pcb block / 0x20 % 2

-- the PCBs that are taken: an I-block of either number, the last one or with more to follow
abbrev pub TakenPcb : ℕ → Type 0
TakenPcb p = (p ≡ 0x00) ⊎ (p ≡ 0x20) ⊎ (p ≡ 0x40) ⊎ (p ≡ 0x60)

-- 11: fewer than 4 bytes; 12: LEN is 255 (reserved)
abbrev pub framing_checks : List ℕ → Checks
framing_checks block = (11, length block < 4) ∷ (12, len block ≡ 255) ∷ []

-- 13: the length is not LEN + 4
abbrev pub block_length_checks : List ℕ → Checks
block_length_checks block = (13, length block ≡ len block + 4 → ⊥) ∷ []

-- 14: the XOR of all bytes is not 0; 15: NAD is not 00, or the PCB is none that is taken
abbrev pub content_checks : List ℕ → Checks
content_checks block =
    (14, xor_of block ≡ 0 → ⊥) ∷ (15, (nad block ≡ 0x00 → ⊥) ⊎ (TakenPcb (pcb block) → ⊥)) ∷ []

-- 16: the information bytes are more than there is room for
abbrev pub room_checks : ℕ → ℕ → Checks
room_checks count room = (16, room < count) ∷ []

-- 11 12 13 14 15
abbrev pub form_checks : List ℕ → Checks
form_checks block = framing_checks block ++ block_length_checks block ++ content_checks block

-- 11 12 13 14 15 16
abbrev pub block_checks : List ℕ → ℕ → Checks
block_checks block room = form_checks block ++ room_checks (len block) room

-- as many information bytes as a block has at most
abbrev pub max_information : ℕ
max_information = 254

-- the PCB of an I-block with this N(S) and M
abbrev pub pcb_of : ℕ → ℕ → ℕ
pcb_of sequence more = 0x40 * sequence + 0x20 * more

-- what stands before the LRC of a block with this PCB and information
abbrev pub unchecked : ℕ → List ℕ → List ℕ
unchecked p info = 0x00 ∷ p ∷ length info ∷ info

-- a block as it is made: 00, the PCB, the number of information bytes, these bytes, and the XOR of all before
abbrev pub block_of : ℕ → ℕ → List ℕ → List ℕ
block_of sequence more info = let before = unchecked (pcb_of sequence more) info in before ++ xor_of before ∷ []

-- an I-block with this N(S) and M that carries info
pub record IBlock (block : List ℕ) (sequence more : ℕ) (info : List ℕ) : Type 0 where
  pub sequence_bit : sequence < 2
  pub more_bit : more < 2
  pub short : length info ≤ max_information
  pub made : block ≡ block_of sequence more info
