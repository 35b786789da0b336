-- What is left of packet once the shape is accepted, over the desk of that shape.
use Rattle.std.specs.Prelude.{◌≡◌, List, ◌++◌, ℕ, ◌+◌, ◌-◌}
use Rattle.bits.specs.Sums.{count}
use Rattle.table.specs.Desk.{Desk, packet_bytes, survivors_bytes}
use Rattle.table.specs.Checks.{Checks, Answered, asked_checks, input_checks, output_checks}
use Rattle.code.specs.Code.{packet_of}
use Rattle.survivors.specs.Packets.{EncodesTo}
use Rattle.rebuild.specs.Stages.{decode_checks}

-- exactly k packets are at hand
abbrev pub ExactlyK : Desk → Type 0
ExactlyK D = count (D.k + D.m) D.present ≡ D.k

module _ (D : Desk) (packets : List ℕ) where
  open D use {k, m}

  -- packet i, from 0, of the sources that encode to the packets
  abbrev pub PacketFound : ℕ → List ℕ → Type 0
  PacketFound i packet = (x : List ℕ) × EncodesTo D packets x × (packet ≡ packet_of D x i)

  -- 8 9 10
  abbrev pub PacketDecided : ℕ → List ℕ → ℕ → List ℕ → Type 0
  PacketDecided i before number after = Answered (decode_checks D packets) number (after ≡ before) (PacketFound i after)

  -- 4 5
  abbrev pub wanted_lengths_checks : ℕ → List ℕ → Checks
  wanted_lengths_checks i before = input_checks (survivors_bytes D) packets ++ output_checks (packet_bytes D i) before

  -- 4 5 8 9 10
  abbrev pub wanted_lent_checks : ℕ → List ℕ → Checks
  wanted_lent_checks i before = wanted_lengths_checks i before ++ decode_checks D packets

  abbrev pub PacketLent : ℕ → List ℕ → ℕ → List ℕ → Type 0
  PacketLent i before number after = Answered (wanted_lent_checks i before) number (after ≡ before) (PacketFound i after)

  -- 6 7 4 5 8 9 10, for the number of the packet that is wanted, from 1
  abbrev pub wanted_named_checks : ℕ → ℕ → List ℕ → Checks
  wanted_named_checks marks wanted before = asked_checks k m marks (k + m) wanted ++ wanted_lent_checks (wanted - 1) before
