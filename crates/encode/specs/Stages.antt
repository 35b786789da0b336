-- What is left of a call once its shape is accepted, over the desk of that shape.
use Rattle.std.specs.Prelude.{◌≡◌, List, ◌++◌, ℕ, ◌+◌, ◌-◌}
use Rattle.table.specs.Desk.{Desk, sources_bytes, packet_bytes, parities_bytes}
use Rattle.table.specs.Checks.{Checks, Answered, number_checks, input_checks, output_checks}
use Rattle.code.specs.Code.{parities_of}

module _ (D : Desk) where
  open D use {k, m}

  -- 4 5 of encode all
  abbrev pub all_checks : List ℕ → List ℕ → Checks
  all_checks sources before = input_checks (sources_bytes D) sources ++ output_checks (parities_bytes D) before

  abbrev pub AllGiven : List ℕ → List ℕ → ℕ → List ℕ → Type 0
  AllGiven sources before number after = Answered (all_checks sources before) number (after ≡ before) (after ≡ parities_of D sources)

  -- 6 of packet length
  abbrev pub LengthGiven : ℕ → ℕ → ℕ → Type 0
  LengthGiven packet number length = Answered (number_checks (k + m) packet) number (length ≡ 0) (length ≡ packet_bytes D (packet - 1))
