-- Each byte is put behind those below it. Assumes nothing.
use Rattle.bits.specs.Bits.{bit}
use Rattle.rows.specs.Rows.{Stored}
use Rattle.rows.proofs.bytes.put_tail.Given as goal

abbrev pub invariant-loop-j : goal.invariant-loop-j
invariant-loop-j l = Stored l.i l.j (bit l.x) l.initial.dst l.dst
