-- Source after source is stored in its place, behind those that stand there. Assumes nothing.
use Rattle.rebuild.proofs.StoreLaws.{StandBelow}
use Rattle.rebuild.proofs.put_sources.Given as goal

abbrev pub invariant-loop-c : goal.invariant-loop-c
invariant-loop-c l = StandBelow l.l l.rows l.c l.out
