-- What the call packet promises.
use Rattle.std.specs.Prelude.{◌≡◌, List, ◌++◌, ℕ, ◌-◌}
use Rattle.table.specs.Desk.{desk}
use Rattle.table.specs.Checks.{Checks, Answered, shape_checks}
use Rattle.packet.specs.Stages.{PacketFound, wanted_named_checks}

-- 1 2 3 6 7 4 5 8 9 10, with 6 for the wanted number too
abbrev pub wanted_checks : ℕ → ℕ → ℕ → List ℕ → ℕ → List ℕ → ℕ → List ℕ → Checks
wanted_checks k m l table marks packets wanted before = shape_checks k m l table ++ wanted_named_checks (desk k m l table marks) packets marks wanted before

-- Packet: its number; refused, the output as it was; else the packet of the wanted number, from 1, of the sources that encode to the packets.
abbrev pub PacketMade : ℕ → ℕ → ℕ → List ℕ → ℕ → List ℕ → ℕ → List ℕ → ℕ → List ℕ → Type 0
PacketMade k m l table marks packets wanted before number after =
    Answered (wanted_checks k m l table marks packets wanted before) number (after ≡ before) (PacketFound (desk k m l table marks) packets (wanted - 1) after)
