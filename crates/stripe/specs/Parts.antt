-- The parts of what rebuild log gives.
use Rattle.std.specs.Prelude.{Result, Ok, Err, ℕ}
use Rattle.table.specs.Refusals.{number_of}
use Rattle.stripe.specs.declared.BadLog.{BadLog}

-- the number that it tells: 0 where the call was not refused
abbrev pub log_number : Result ℕ BadLog → ℕ
log_number (Ok n) = 0
log_number (Err e) = number_of e.refusal

-- how many of the stripes are good: all of them where the call was not refused
abbrev pub log_good : ℕ → Result ℕ BadLog → ℕ
log_good stripes (Ok n) = stripes
log_good stripes (Err e) = e.good

-- the count of steps, with 8 those made before the stall
abbrev pub log_count : Result ℕ BadLog → ℕ
log_count (Ok n) = n
log_count (Err e) = e.count
