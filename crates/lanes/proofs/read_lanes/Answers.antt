-- After each turn some order of so many steps leads to g, and in every stripe what is known is what that order reads there. Assumes nothing.
use Prim.Native.Nat.{◌+◌, ◌*◌, ◌≤◌}
use native.Mathlib.Omega.{arith}
use lib.ListN.{set}
use Rattle.bits.specs.Sums.{at}
use Rattle.table.specs.Limits.{max_k, max_bits}
use Rattle.table.specs.Desks.{desk_of}
use Rattle.table.proofs.Bounds.{within_bounds}
use Rattle.walk.proofs.Totals.{all, all_most}
use Rattle.search.proofs.StepsSoFar.{led_fits, led_short}
use Rattle.lanes.proofs.LaneSteps.{bare_in_packet, Stepping, stepping_none, stepping_end, stepping_more}
use Rattle.lanes.proofs.read_lanes.Goals as goal
use Rattle.lanes.proofs.read_lanes.Goals.{After-left_word}

next-step : (c : After-left_word)
    → let s = c.args in
    let b = c.in-Some.p.source in
    Stepping (desk_of s.log.now.desk.now) s.log.now.packets.now s.log.now.stripes (set c.loop-p.g b (at c.loop-p.g b + 1)) (c.loop-p.count + 1)
    (set c.loop-p.lanes (b * max_bits + at c.loop-p.g b) c.left_word.result)
next-step c =
    let s = c.args in
    stepping_more (desk_of s.log.now.desk.now) s.log.now.packets.now s.log.now.stripes c.loop-p.invariant.1 (within_bounds s.log.now.desk.now) _ _ _ _
    c.in-Some.ensures (omega (arith, c.shift_of.ensures.0)) c.left_word.ensures

next-short : (c : After-left_word) → c.loop-p.count + 1 ≤ all (desk_of c.args.log.now.desk.now)
next-short c = led_short (desk_of c.args.log.now.desk.now) (next-step c).steps

pub loop-p-init : goal.loop-p-init
loop-p-init c = let s = c.args.log.now in (omega arith, stepping_none (desk_of s.desk.now) s.packets.now s.stripes _ c.requires.lanes_len c.requires.by_index)

pub some_pair-requires-clause-fits : goal.some_pair-requires-clause-fits
some_pair-requires-clause-fits c = led_fits (desk_of c.args.log.now.desk.now) c.loop-p.invariant.1.steps

pub left_word-requires-clause-q_bound : goal.left_word-requires-clause-q_bound
left_word-requires-clause-q_bound c = omega (arith, bare_in_packet (desk_of c.args.log.now.desk.now) (at c.loop-p.g) _ _ c.in-Some.ensures, c.shift_of.ensures.0)

pub overflow_add-count : goal.overflow_add-count
overflow_add-count c =
    let W = within_bounds c.args.log.now.desk.now in
    omega (arith, all_most (desk_of c.args.log.now.desk.now) max_bits max_k W.bits_high W.k_high, next-short (goal.at.overflow_add-count c).After-left_word)

pub loop-p-smaller : goal.loop-p-smaller
loop-p-smaller c = omega (arith, next-short (goal.at.loop-p-smaller c).After-left_word)

pub loop-p-preserved : goal.loop-p-preserved
loop-p-preserved c = (omega (arith, c.in-Some.ensures.held.0), next-step (goal.at.loop-p-preserved c).After-left_word)

pub returns : goal.returns
returns c =
    let s = c.args.log.now in
    stepping_end (desk_of s.desk.now) s.packets.now s.stripes c.loop-p.invariant.1 c.is_whole-whole.result c.in_default.ensures c.is_whole-whole.ensures
