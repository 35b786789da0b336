-- After each turn some order of so many steps leads to g, and what it read stands in the sources; what is left of the parities stays as it was. Assumes nothing.
use Prim.Native.Nat.{◌+◌, ◌≤◌}
use native.Mathlib.Omega.{arith}
use lib.ListN.{set}
use Rattle.bits.specs.Sums.{at}
use Rattle.table.specs.Limits.{max_k, max_bits}
use Rattle.table.specs.Desks.{desk_of}
use Rattle.table.proofs.Bounds.{within_bounds}
use Rattle.walk.specs.Compute.{full_b, whole_b}
use Rattle.walk.proofs.Totals.{all, all_most}
use Rattle.decode.proofs.StepLaws.{Stepping, stepping_none, stepping_fits, stepping_short, stepping_more, stepping_end, tells_whole}
use Rattle.decode.proofs.steps.decode.Goals as goal
use Rattle.decode.proofs.steps.decode.Goals.{After-take_bit}

next-step : (c : After-take_bit)
    → let s = c.args in
    let b = c.in-Some.p.source in
    Stepping (desk_of s.desk.now) s.rows.now (set c.loop-p.g b (at c.loop-p.g b + 1)) (c.loop-p.count + 1) c.take_bit.new.rows
next-step c =
    let W = within_bounds c.args.desk.now in
    stepping_more (desk_of c.args.desk.now) c.args.rows.now c.requires.blank c.loop-p.invariant.2 W _ _ _ c.in-Some.ensures c.take_bit.ensures

next-short : (c : After-take_bit)
    → let s = c.args in
    c.loop-p.count + 1 ≤ all (desk_of s.desk.now)
next-short c =
    stepping_short (desk_of c.args.desk.now) c.args.rows.now c.requires.blank (next-step c)

pub loop-p-init : goal.loop-p-init
loop-p-init c = (omega arith, c.requires.roomy, stepping_none (desk_of c.args.desk.now) c.args.rows.now c.requires.blank)

pub some_pair-requires-clause-fits : goal.some_pair-requires-clause-fits
some_pair-requires-clause-fits c = stepping_fits (desk_of c.args.desk.now) c.args.rows.now c.requires.blank c.loop-p.invariant.2

pub overflow_add-count : goal.overflow_add-count
overflow_add-count c =
    let W = within_bounds c.args.desk.now in
    omega (arith, all_most (desk_of c.args.desk.now) max_bits max_k W.bits_high W.k_high, next-short (goal.at.overflow_add-count c).After-take_bit)

pub loop-p-smaller : goal.loop-p-smaller
loop-p-smaller c = omega (arith, next-short (goal.at.loop-p-smaller c).After-take_bit)

pub loop-p-preserved : goal.loop-p-preserved
loop-p-preserved c = (omega (arith, c.in-Some.ensures.held.0), omega (arith, c.loop-p.invariant.1), next-step (goal.at.loop-p-preserved c).After-take_bit)

pub returns : goal.returns
unfolding whole_b full_b
returns c =
    let D = desk_of c.args.desk.now in
    let S = c.loop-p.invariant.2 in
    let fits = stepping_fits D c.args.rows.now c.requires.blank S in
    stepping_end D c.args.rows.now c.requires.blank S c.is_whole.result c.in_default.ensures (tells_whole D (at c.loop-p.g) c.is_whole.result fits c.is_whole.ensures)
