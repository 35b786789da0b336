-- The parts of what the line reader gives: noughts where the input is refused.
use Rattle.std.specs.Prelude.{Result, Ok, Err, ℕ}
use Rattle.table.specs.declared.refusals.Refusal.{Refusal}
use Rattle.line.specs.declared.Line.{Line}

abbrev pub k_given : Result Line Refusal → ℕ
k_given (Ok line) = line.k
k_given (Err r) = 0

abbrev pub m_given : Result Line Refusal → ℕ
m_given (Ok line) = line.m
m_given (Err r) = 0

abbrev pub l_given : Result Line Refusal → ℕ
l_given (Ok line) = line.l
l_given (Err r) = 0
