-- Source after source is stored in its place, behind those that stand there. Assumes nothing.
use Rattle.table.specs.Desks.{desk_of}
use Rattle.lanes.proofs.StripeLaws.{StandBelow}
use Rattle.lanes.proofs.read_stripe.Given as goal

abbrev pub invariant-loop-c : goal.invariant-loop-c
invariant-loop-c l = StandBelow (desk_of l.desk) l.log.packets.now l.lanes l.t l.c l.out
