-- The number of each refusal, and what a call tells by its number.
use Rattle.std.specs.Prelude.{Result, Ok, Err, ℕ}
use Rattle.table.specs.declared.refusals.Refusal.{Refusal}

abbrev pub number_of : Refusal → ℕ
number_of Refusal.Size = 1
number_of Refusal.Length = 2
number_of Refusal.Table = 3
number_of Refusal.Input = 4
number_of Refusal.Output = 5
number_of Refusal.Packet = 6
number_of Refusal.Marks = 7
number_of Refusal.Stall = 8
number_of Refusal.Stray = 9
number_of Refusal.Foreign = 10
number_of Refusal.BlockShort = 11
number_of Refusal.BlockReserved = 12
number_of Refusal.BlockLength = 13
number_of Refusal.BlockSum = 14
number_of Refusal.BlockHeader = 15
number_of Refusal.Room = 16
number_of Refusal.Progress = 17
number_of Refusal.Line = 18
number_of Refusal.Family = 19
number_of Refusal.BlockTurn = 20
number_of Refusal.BlockEnd = 21
number_of Refusal.StepsUnequal = 22
number_of Refusal.StepNotBare = 23
number_of Refusal.StepsEarly = 24
number_of Refusal.Stripes = 25
number_of Refusal.Cut = 36

-- the number that an answer tells: 0 where the call was not refused
abbrev pub told : {A : Type 0} → Result A Refusal → ℕ
told (Ok a) = 0
told (Err r) = number_of r

-- the number that was asked for, and 0 where the call was refused
abbrev pub given : Result ℕ Refusal → ℕ
given (Ok n) = n
given (Err r) = 0
