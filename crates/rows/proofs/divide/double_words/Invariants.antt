-- To each word itself is added, shifted up; the words not yet reached are as they were. Assumes nothing.
use Rattle.rows.proofs.RowLaws.{AddedBelow}
use Rattle.rows.proofs.DivideLaws.{words_up}
use Rattle.rows.proofs.divide.double_words.Given as goal

abbrev pub invariant-loop-c : goal.invariant-loop-c
invariant-loop-c l = AddedBelow l.a (words_up l.a l.e l.initial.rows) l.initial.rows l.c l.rows
