-- Each word is added with what crosses into it from the word before, and so are the bytes that are left; behind them only what crosses. Assumes nothing.
use Rattle.rows.proofs.ByteRowLaws.{Crossed}
use Rattle.rows.proofs.bytes.add_crossing.Given as goal

abbrev pub invariant-loop-c : goal.invariant-loop-c
invariant-loop-c l = Crossed l.a l.s l.src l.initial.rows l.c l.rows l.last
