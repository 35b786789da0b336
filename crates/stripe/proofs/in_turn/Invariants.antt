-- Stripe after stripe is made in its part of the output; the first bad one ends it. Assumes nothing.
use Rattle.table.specs.Desks.{desk_of}
use Rattle.stripe.proofs.DoneLaws.{Done}
use Rattle.stripe.proofs.in_turn.Given as goal

abbrev pub invariant-loop-t : goal.invariant-loop-t
invariant-loop-t g l = Done (desk_of l.desk) l.fn.stripes l.packets l.initial.out l.t l.count l.out
