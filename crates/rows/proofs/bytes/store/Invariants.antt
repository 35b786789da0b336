-- Word by word, then the bytes of the word that is begun: each stands behind those before it. Assumes nothing.
use Rattle.std.proofs.Common.{◌*◌}
use Rattle.rows.specs.Rows.{row_in, Stored}
use Rattle.rows.proofs.bytes.store.Given as goal

abbrev pub invariant-loop-c : goal.invariant-loop-c
invariant-loop-c l = Stored l.from (8 * l.c) (row_in l.rows l.a) l.initial.dst l.dst
