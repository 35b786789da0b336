-- One call for any packet: from the k sources it gives what encode one gave, a call that is no more. proofs/AnyPacket proves each statement.
use Rattle.std.specs.Prelude.{◌≡◌, ◌↔◌, List, ◌++◌, true, ℕ, ◌+◌, ◌-◌, ◌^◌, ◌<◌, length}
use Rattle.bits.specs.Bits.{Bytes}
use Rattle.table.specs.Desk.{desk, mark, sources_bytes}
use Rattle.table.specs.Checks.{Checked, shape_checks, number_checks}
use Rattle.encode.specs.Promise.{EncodedOne}
use Rattle.packet.specs.Promise.{PacketMade}

-- the marks are those of packets 1 to k: the sources, and nothing else
abbrev pub SourcesMarked : ℕ → ℕ → Type 0
SourcesMarked k marks = (i : ℕ) → (mark marks i ≡ true) ↔ (i < k)

-- 2^k − 1 are such marks.
abbrev pub MarksOfTheSources : Type 0
MarksOfTheSources = (k : ℕ) → SourcesMarked k (2 ^ k - 1)

-- With such marks and the sources as the packets, packet gives what encode one gave, and all of it: the same number, for every input, refused ones too, and the same output.
abbrev pub PacketIsWhatEncodeOneGave : Type 0
PacketIsWhatEncodeOneGave =
    (k m l : ℕ) (table : List ℕ) (marks : ℕ) (sources : List ℕ) (wanted : ℕ) (before : List ℕ) (number : ℕ) (after : List ℕ)
    → SourcesMarked k marks
    → Bytes sources
    → PacketMade k m l table marks sources wanted before number after ↔ EncodedOne k m l table wanted sources before number after

-- So 7, 8, 9 and 10 do not occur; and where neither the shape nor the wanted number is refused, 4 is for an input that has not the bytes of all sources.
abbrev pub NumbersFromTheSources : Type 0
NumbersFromTheSources =
    (k m l : ℕ) (table : List ℕ) (marks : ℕ) (sources : List ℕ) (wanted : ℕ) (before : List ℕ) (number : ℕ) (after : List ℕ)
    → SourcesMarked k marks
    → Bytes sources
    → PacketMade k m l table marks sources wanted before number after
    → (number < 7) × (Checked (shape_checks k m l table ++ number_checks (k + m) wanted) 0 → (number ≡ 4) ↔ (length sources ≡ sources_bytes (desk k m l table marks) → ⊥))
