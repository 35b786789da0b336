-- What the calls family table and judge promise.
use Rattle.std.specs.Prelude.{◌≡◌, List, ◌++◌, ℕ, ◌+◌, ◌*◌, ◌<◌, length}
use Rattle.table.specs.Desk.{Grows, desk, entry}
use Rattle.table.specs.Family.{family_shift}
use Rattle.table.specs.Checks.{Checks, Answered, Flag, size_checks, family_number_checks, table_checks, output_checks}

-- the table of a family: m rows of k entries
pub record FamilyTable (family k m : ℕ) (table : List ℕ) : Type 0 where
  pub size : length table ≡ m * k
  pub cell : (a b : ℕ) → a < m → b < k → entry k table a b ≡ family_shift family k m (a + 1) (b + 1)

-- that of the house family
abbrev pub HouseTable : ℕ → ℕ → List ℕ → Type 0
HouseTable k m = FamilyTable 1 k m

-- 1 19 5
abbrev pub family_checks : ℕ → ℕ → ℕ → List ℕ → Checks
family_checks k m family before = size_checks k m ++ family_number_checks family ++ output_checks (m * k) before

-- Family table: its number; refused, the output as it was; else the table of that family.
abbrev pub FamilyWritten : ℕ → ℕ → ℕ → List ℕ → ℕ → List ℕ → Type 0
FamilyWritten k m family before number after = Answered (family_checks k m family before) number (after ≡ before) (FamilyTable family k m after)

-- 1 3
abbrev pub judge_checks : ℕ → ℕ → List ℕ → Checks
judge_checks k m table = size_checks k m ++ table_checks k m table

-- Judge: its number; refused, no; else yes exactly for growing differences.
abbrev pub Judged : ℕ → ℕ → List ℕ → ℕ → ℕ → Type 0
Judged k m table number growing = Answered (judge_checks k m table) number (growing ≡ 0) (Flag (Grows (desk k m 0 table 0)) growing)
