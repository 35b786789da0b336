-- All words are put into one, which is 0 if each of them is. Assumes nothing.
use Rattle.rows.proofs.ClearLaws.{Gathered}
use Rattle.rows.proofs.bytes.clear_rows.Given as goal

abbrev pub invariant-loop-i : goal.invariant-loop-i
invariant-loop-i l = Gathered l.rows l.a l.n l.i l.x
