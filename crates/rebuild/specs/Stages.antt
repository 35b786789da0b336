-- What is left of rebuild once the shape is accepted, over the desk of that shape.
use Rattle.std.specs.Prelude.{◌≡◌, List, ◌++◌, ℕ}
use Rattle.table.specs.Desk.{Desk, sources_bytes, survivors_bytes}
use Rattle.table.specs.Checks.{Checks, Answered, input_checks, output_checks}
use Rattle.walk.specs.Ends.{Ended, Finishes, stall_checks}
use Rattle.survivors.specs.Packets.{EncodesTo, packets_checks}

module _ (D : Desk) where
  -- refused: with 8 the steps made before the stall, else none
  abbrev pub StepsTold : ℕ → ℕ → Type 0
  StepsTold number count = (number ≡ 8 → Ended D count) × ((number ≡ 8 → ⊥) → count ≡ 0)

  module _ (packets : List ℕ) where
    -- 8 9 10
    abbrev pub decode_checks : Checks
    decode_checks = stall_checks D ++ packets_checks D packets

    -- the steps that finish all missing sources, and the sources that encode to the packets
    abbrev pub SourcesFound : ℕ → List ℕ → Type 0
    SourcesFound count sources = Finishes D count × EncodesTo D packets sources

    abbrev pub Recovered : ℕ → ℕ → List ℕ → Type 0
    Recovered number count sources = Answered decode_checks number (StepsTold number count) (SourcesFound count sources)

    -- so, with an output that keeps its bytes where refused
    abbrev pub RebuildMade : List ℕ → ℕ → ℕ → List ℕ → Type 0
    RebuildMade before number count after = Answered decode_checks number ((after ≡ before) × StepsTold number count) (SourcesFound count after)

    -- 4 5
    abbrev pub rebuild_lengths_checks : List ℕ → Checks
    rebuild_lengths_checks before = input_checks (survivors_bytes D) packets ++ output_checks (sources_bytes D) before

    -- 4 5 8 9 10
    abbrev pub rebuild_lent_checks : List ℕ → Checks
    rebuild_lent_checks before = rebuild_lengths_checks before ++ decode_checks

    abbrev pub RebuildGiven : List ℕ → ℕ → ℕ → List ℕ → Type 0
    RebuildGiven before number count after = Answered (rebuild_lent_checks before) number ((after ≡ before) × StepsTold number count) (SourcesFound count after)
