-- What the calls read_blocks and write_blocks promise.
use Rattle.std.specs.Prelude.{◌≡◌, List, ℕ, length}
use Rattle.text.specs.Text.{Front}
use Rattle.table.specs.Checks.{Answered}
use Rattle.chain.specs.Run.{BlockRun, read_checks}
use Rattle.chain.specs.Cut.{write_checks}
use Rattle.chain.specs.Writing.{BlocksPut}

-- Read blocks: its number; refused, no bytes and the destination as it was; else what the run carries at its front, the rest as it was, and how many they are.
abbrev pub BlocksRead : List ℕ → List ℕ → ℕ → ℕ → List ℕ → Type 0
BlocksRead run before number count after =
    Answered (read_checks run (length before)) number
    ((count ≡ 0) × (after ≡ before))
    ((info : List ℕ) × BlockRun 0 run info × (count ≡ length info) × Front before info after)

-- Write blocks: its number; refused, no bytes and the destination as it was; else the packet cut into blocks at its front, the rest as it was, and how many bytes they are.
abbrev pub BlocksWritten : List ℕ → ℕ → List ℕ → ℕ → ℕ → List ℕ → Type 0
BlocksWritten packet size before number count after =
    Answered (write_checks packet size (length before)) number
    ((count ≡ 0) × (after ≡ before))
    (BlocksPut size packet before count after)
