-- What a block that was taken tells, and 0 where it was refused.
use Rattle.std.specs.Prelude.{Bool, true, false, Result, Ok, Err, ℕ}
use Rattle.table.specs.declared.refusals.Refusal.{Refusal}
use Rattle.card.specs.declared.Taken.{Taken}

-- a flag as a number
abbrev pub flag : Bool → ℕ
flag true = 1
flag false = 0

abbrev pub length_taken : Result Taken Refusal → ℕ
length_taken (Ok t) = t.length
length_taken (Err r) = 0

abbrev pub sequence_taken : Result Taken Refusal → ℕ
sequence_taken (Ok t) = t.sequence
sequence_taken (Err r) = 0

abbrev pub more_taken : Result Taken Refusal → ℕ
more_taken (Ok t) = flag t.more
more_taken (Err r) = 0
