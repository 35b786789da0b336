-- The parts of what next step and walk give, as their promises name them: noughts where the call was refused.
use Rattle.std.specs.Prelude.{Bool, List, ℕ, ◌+◌, Option, Some, None, Result, Ok, Err}
use Rattle.std.specs.Int.{from_bool}
use Rattle.table.specs.Limits.{noughts}
use Rattle.table.specs.declared.refusals.Refusal.{Refusal}
use Rattle.walk.specs.declared.Pair.{Pair}
use Rattle.walk.specs.declared.Step.{Step}
use Rattle.walk.specs.declared.WalkEnd.{WalkEnd}

-- the parity and the source of a pair, from 1; 0 where there is none
abbrev pub parity_number : Option Pair → ℕ
parity_number None = 0
parity_number (Some p) = p.parity + 1

abbrev pub source_number : Option Pair → ℕ
source_number None = 0
source_number (Some p) = p.source + 1

-- 1 where all is whole, else 0
abbrev pub whole_number : Bool → ℕ
whole_number = from_bool

abbrev pub step_parity : Result Step Refusal → ℕ
step_parity (Ok s) = parity_number s.pair
step_parity (Err r) = 0

abbrev pub step_source : Result Step Refusal → ℕ
step_source (Ok s) = source_number s.pair
step_source (Err r) = 0

abbrev pub step_progress : Result Step Refusal → List ℕ
step_progress (Ok s) = s.progress
step_progress (Err r) = noughts

abbrev pub walk_count : Result WalkEnd Refusal → ℕ
walk_count (Ok w) = w.count
walk_count (Err r) = 0

abbrev pub walk_whole : Result WalkEnd Refusal → ℕ
walk_whole (Ok w) = whole_number w.whole
walk_whole (Err r) = 0

abbrev pub walk_progress : Result WalkEnd Refusal → List ℕ
walk_progress (Ok w) = w.progress
walk_progress (Err r) = noughts
