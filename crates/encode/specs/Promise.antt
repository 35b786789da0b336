-- What the calls encode all, packet length, parities' length and survivors' length promise; and what encode one gave, which is no call any more.
use Rattle.std.specs.Prelude.{◌≡◌, List, ◌++◌, ℕ, ◌+◌, ◌-◌}
use Rattle.table.specs.Desk.{desk, sources_bytes, packet_bytes, parities_bytes, survivors_bytes}
use Rattle.table.specs.Checks.{Checks, Answered, shape_checks, marked_checks, number_checks, input_checks, output_checks}
use Rattle.code.specs.Code.{packet_of, parities_of}
use Rattle.encode.specs.Stages.{all_checks}

-- 1 2 3 4 5
abbrev pub encode_checks : ℕ → ℕ → ℕ → List ℕ → List ℕ → List ℕ → Checks
encode_checks k m l table sources before = shape_checks k m l table ++ all_checks (desk k m l table 0) sources before

-- Encode all: its number; refused, the output as it was; else all parities, in order.
abbrev pub EncodedAll : ℕ → ℕ → ℕ → List ℕ → List ℕ → List ℕ → ℕ → List ℕ → Type 0
EncodedAll k m l table sources before number after =
    Answered (encode_checks k m l table sources before) number (after ≡ before) (after ≡ parities_of (desk k m l table 0) sources)

-- What encode one gave. No call has these two any more: the call packet gives the same from the k sources (promises, AnyPacket).
-- 1 2 3 6 4 5
abbrev pub encode_one_checks : ℕ → ℕ → ℕ → List ℕ → ℕ → List ℕ → List ℕ → Checks
encode_one_checks k m l table packet sources before =
    let D = desk k m l table 0 in
    shape_checks k m l table ++ number_checks (k + m) packet ++ input_checks (sources_bytes D) sources ++ output_checks (packet_bytes D (packet - 1)) before

-- Encode one: its number; refused, the output as it was; else the packet of that number, from 1.
abbrev pub EncodedOne : ℕ → ℕ → ℕ → List ℕ → ℕ → List ℕ → List ℕ → ℕ → List ℕ → Type 0
EncodedOne k m l table packet sources before number after =
    Answered (encode_one_checks k m l table packet sources before) number (after ≡ before) (after ≡ packet_of (desk k m l table 0) sources (packet - 1))

-- 1 2 3 6
abbrev pub packet_length_checks : ℕ → ℕ → ℕ → List ℕ → ℕ → Checks
packet_length_checks k m l table packet = shape_checks k m l table ++ number_checks (k + m) packet

-- Packet length: its number; refused, 0; else the bytes of the packet of that number, from 1.
abbrev pub PacketMeasured : ℕ → ℕ → ℕ → List ℕ → ℕ → ℕ → ℕ → Type 0
PacketMeasured k m l table packet number length =
    Answered (packet_length_checks k m l table packet) number (length ≡ 0) (length ≡ packet_bytes (desk k m l table 0) (packet - 1))

-- Parities' length, 1 2 3: its number; refused, 0; else the bytes of all parities together.
abbrev pub ParitiesMeasured : ℕ → ℕ → ℕ → List ℕ → ℕ → ℕ → Type 0
ParitiesMeasured k m l table number length =
    Answered (shape_checks k m l table) number (length ≡ 0) (length ≡ parities_bytes (desk k m l table 0))

-- Survivors' length: its number; refused, 0; else the bytes of all packets present.
abbrev pub SurvivorsMeasured : ℕ → ℕ → ℕ → List ℕ → ℕ → ℕ → ℕ → Type 0
SurvivorsMeasured k m l table marks number length =
    Answered (marked_checks k m l table marks) number (length ≡ 0) (length ≡ survivors_bytes (desk k m l table marks))
