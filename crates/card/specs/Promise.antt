-- What the call block promises.
use Rattle.std.specs.Prelude.{◌≡◌, List, ◌++◌, ℕ, length, drop}
use Rattle.table.specs.Checks.{Answered}
use Rattle.card.specs.Block.{len, sequence_of, more_of, information, block_checks}

-- Block: its number; refused, no bytes, no N(S), no M and the destination as it was; else the information bytes at its front, the rest as it was, how many they are, N(S) and M.
abbrev pub BlockTaken : List ℕ → List ℕ → ℕ → ℕ → ℕ → ℕ → List ℕ → Type 0
BlockTaken block before number count sequence more after =
    Answered (block_checks block (length before)) number
    ((count ≡ 0) × (sequence ≡ 0) × (more ≡ 0) × (after ≡ before))
    ((count ≡ len block) × (sequence ≡ sequence_of block) × (more ≡ more_of block) × (after ≡ information block ++ drop (len block) before))
