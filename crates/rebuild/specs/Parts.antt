-- The parts of what rebuild gives.
use Rattle.std.specs.Prelude.{Result, Ok, Err, ℕ}
use Rattle.table.specs.Refusals.{number_of}
use Rattle.rebuild.specs.declared.Unread.{Unread}

-- the number that it tells: 0 where the call was not refused
abbrev pub rebuild_number : Result ℕ Unread → ℕ
rebuild_number (Ok n) = 0
rebuild_number (Err e) = number_of e.refusal

-- the count of steps, with 8 those made before the stall
abbrev pub rebuild_count : Result ℕ Unread → ℕ
rebuild_count (Ok n) = n
rebuild_count (Err e) = e.count
