-- A packet cut into blocks.
use Rattle.std.specs.Prelude.{List, [], ◌∷◌, ◌++◌, ℕ, zero, suc, ◌-◌, ◌*◌, ◌<◌, leb, length, take, drop}
use Rattle.bits.specs.Sums.{pick}
use Rattle.table.specs.Limits.{longest}
use Rattle.table.specs.Checks.{Checks, Outside}
use Rattle.card.specs.Block.{max_information, room_checks, block_of}

-- what is left of a packet, from N(S) = turn on: as long as there are more than size bytes a block of size bytes with M, of which there are at most n; then one of the rest without
unfoldable pub cut_from : ℕ → ℕ → ℕ → List ℕ → List ℕ
cut_from zero turn size left = block_of turn 0 left
cut_from (suc n) turn size left =
    pick (leb (length left) size) (block_of turn 0 left) (block_of turn 1 (take size left) ++ cut_from n (1 - turn) size (drop size left))

-- a packet in blocks of at most size bytes each: with a size of 1 or more there are not more of them with M than it has bytes
abbrev pub cut_into : ℕ → List ℕ → List ℕ
cut_into size packet = cut_from (length packet) 0 size packet

-- as many bytes as the blocks of the longest packet have at most: 5 for each of its bytes
abbrev pub blocks_longest : ℕ
blocks_longest = 5 * longest

-- 36: the size is 0 or above the most that a block carries
abbrev pub cut_size_checks : ℕ → Checks
cut_size_checks size = (36, Outside max_information size) ∷ []

-- 4: the packet is longer than the longest
abbrev pub packet_checks : List ℕ → Checks
packet_checks packet = (4, longest < length packet) ∷ []

-- 36 4 16
abbrev pub write_checks : List ℕ → ℕ → ℕ → Checks
write_checks packet size room = cut_size_checks size ++ packet_checks packet ++ room_checks (length (cut_into size packet)) room
