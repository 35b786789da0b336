-- At first the word has the parity's bit of every stripe; then from one source to the next what is known of it is taken out, by XOR. Assumes nothing.
use Rattle.table.specs.Desks.{desk_of}
use Rattle.lanes.proofs.LeftLaws.{LeftBelow}
use Rattle.lanes.proofs.left_word.Given as goal

abbrev pub invariant-loop-c : goal.invariant-loop-c
invariant-loop-c l = LeftBelow (desk_of l.log.desk.now) l.log.packets.now l.lanes l.log.stripes l.a l.q l.c l.word
