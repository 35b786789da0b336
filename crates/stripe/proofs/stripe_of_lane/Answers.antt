-- What the lane holds of a stripe is the only candidate. Assumes nothing.
use mathlib.Core.Path.{◌∙◌, subst}
use lib.Seq.{length-take-le}
use Rattle.table.specs.Desks.{desk_of}
use Rattle.table.proofs.Bounds.{within_bounds}
use Rattle.code.proofs.CodeLaws.{shape_short}
use Rattle.survivors.specs.Packets.{EncodesTo}
use Rattle.lanes.proofs.Candidates.{only_known}
use Rattle.stripe.proofs.stripe_of_lane.Goals as goal

pub stripe_of_candidate-requires-clause-by_index : goal.stripe_of_candidate-requires-clause-by_index
stripe_of_candidate-requires-clause-by_index c = λ x X.
    let a = c.args in
    let log = a.log.now in
    let D = desk_of log.desk.now in
    let size = c.read_stripe.auto.out ∙ length-take-le _ _ c.sources_bytes.ensures.1 ∙ c.sources_bytes.ensures.0 in
    only_known D (within_bounds log.desk.now) (shape_short log.desk.now) log.packets.now log.stripes a.count a.words.now c.requires.lanes_read
    a.t c.requires.t_lt_stripes _ c.known.ensures size c.read_stripe.ensures x (subst (λ packets. EncodesTo D packets x) c.requires.own X)
