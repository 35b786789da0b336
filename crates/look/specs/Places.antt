-- Where a source stands, part by part, and 0 where the call was refused.
use Rattle.std.specs.Prelude.{Result, Ok, Err, ℕ}
use Rattle.table.specs.declared.refusals.Refusal.{Refusal}
use Rattle.look.specs.declared.Buffer.{Buffer}
use Rattle.look.specs.declared.Place.{Place}

abbrev pub number_of : Buffer → ℕ
number_of Buffer.Survivors = 1
number_of Buffer.Rebuilt = 2

abbrev pub buffer_told : Result Place Refusal → ℕ
buffer_told (Ok p) = number_of p.buffer
buffer_told (Err r) = 0

abbrev pub start_told : Result Place Refusal → ℕ
start_told (Ok p) = p.start
start_told (Err r) = 0

abbrev pub length_told : Result Place Refusal → ℕ
length_told (Ok p) = p.length
length_told (Err r) = 0
