-- Steps that stall decide 8 for all stripes, and steps that finish leave what the lanes hold to decide the rest. Assumes nothing.
use borrow.Author.Tests.{not-true, not-false}
use mathlib.Core.Path.{subst}
use Rattle.bits.proofs.BitLaws.{get_or-zeros}
use Rattle.table.specs.Desks.{desk_of}
use Rattle.lanes.specs.Lanes.{lane_words, LanesRead}
use Rattle.stripe.specs.Parts.{log_number, log_good, log_count}
use Rattle.stripe.specs.Stripes.{LogDecided}
use Rattle.whole_log.proofs.StageLaws.{stalled, of_parts}
use Rattle.whole_log.proofs.log_by_steps.Goals as goal

pub read_lanes-steps-requires-clause-by_index : goal.read_lanes-steps-requires-clause-by_index
read_lanes-steps-requires-clause-by_index c = get_or-zeros lane_words

pub returns-then-not-steps : goal.returns-then-not-steps
returns-then-not-steps c =
    let s = c.args in
    let steps = c.read_lanes-steps in
    let read = of_parts c.new-log.ensures (λ d n xs. LanesRead (desk_of d) xs n steps.result.count steps.result.whole steps.new.lanes) steps.ensures in
    stalled (desk_of s.desk.now) s.stripes s.packets.now s.out.now _ _ _ read (not-true _ c.if-not-steps.true)

pub log_of_lanes-requires-clause-lanes_read : goal.log_of_lanes-requires-clause-lanes_read
log_of_lanes-requires-clause-lanes_read c =
    let log = c.new-log.result in
    subst (λ v. LanesRead (desk_of log.desk.now) log.packets.now log.stripes c.read_lanes-steps.result.count v c.read_lanes-steps.new.lanes)
    (not-false _ c.if-not-steps.false) c.read_lanes-steps.ensures

pub returns : goal.returns
returns c =
    let r = c.log_of_lanes.result in
    of_parts c.new-log.ensures (λ d n xs. LogDecided (desk_of d) n xs c.args.out.now (log_number r) (log_good n r) (log_count r) c.log_of_lanes.new.out) c.log_of_lanes.ensures
