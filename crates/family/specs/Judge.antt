-- The judge's test, cell by cell of shifts laid out as the full sheet is, and what it tells.
use Rattle.std.specs.Prelude.{Bool, true, false, Result, Ok, Err, List, ℕ, ◌+◌, ◌*◌, ◌/◌, ◌%◌, ◌<◌}
use Rattle.bits.specs.Sums.{at}
use Rattle.table.specs.Limits.{max_k, cells}
use Rattle.table.specs.declared.refusals.Refusal.{Refusal}

-- the difference between columns b and b + 1 grows from row a to row a + 1
abbrev pub StepGrows : List ℕ → ℕ → ℕ → Type 0
StepGrows shifts a b =
    at shifts (a * max_k + b + 1) + at shifts (a * max_k + b + max_k) < at shifts (a * max_k + b + max_k + 1) + at shifts (a * max_k + b)

-- so at cell i, where a row and a column of the table come after it
abbrev pub CellGrows : ℕ → ℕ → List ℕ → ℕ → Type 0
CellGrows k m shifts i = i / max_k + 1 < m → i % max_k + 1 < k → StepGrows shifts (i / max_k) (i % max_k)

-- so at every cell
abbrev pub TableGrows : ℕ → ℕ → List ℕ → Type 0
TableGrows k m shifts = (i : ℕ) → i < cells → CellGrows k m shifts i

-- whether differences grow, 1 or 0; 0 where the call was refused
abbrev pub growing : Result Bool Refusal → ℕ
growing (Ok true) = 1
growing (Ok false) = 0
growing (Err r) = 0
