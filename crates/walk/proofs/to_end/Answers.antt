-- After each turn some order of so many steps leads to g, and each step leaves a bit less. Assumes nothing.
use mathlib.Core.Path.{sym}
use Prim.Native.Nat.{◌+◌}
use Rattle.bits.specs.Sums.{at}
use Rattle.table.specs.Limits.{max_k, max_bits}
use Rattle.table.specs.Desks.{desk_of}
use Rattle.table.proofs.PacketLaws.{source_bits_high}
use Rattle.walk.specs.Compute.{full_b, whole_b}
use Rattle.walk.proofs.Totals.{all_most}
use Rattle.walk.proofs.Computed.{found_bare, no_pair, flagged}
use Rattle.walk.proofs.Reached.{Reached, reaches_fits, reaches_short, reached_none, reached_more, reached_end}
use native.Mathlib.Omega.{arith}
use Rattle.walk.proofs.to_end.Goals as goal
use Rattle.walk.proofs.to_end.Goals.{After-raised-g}

pub loop-p-init : goal.loop-p-init
loop-p-init c = reached_none (desk_of c.args.desk.now)

pub next_pair-requires : goal.next_pair-requires
next_pair-requires c = record { fits = reaches_fits _ c.loop-p.invariant.steps }

pub raised-g-requires : goal.raised-g-requires
raised-g-requires c =
    let d = c.args.desk.now in
    let r = c.in-Some.ensures in
    let free = (found_bare (desk_of d) (at c.loop-p.g) c.in-Some.p.parity c.in-Some.p.source r.0 r.1 r.2).free in
    record {
      b_lt_max_k = omega (arith, free, d.within.k_high);
      b_bound = omega (arith, free, source_bits_high d.length d.within.l_high);
    }

-- a step was made
stepped : (c : After-raised-g) → Reached (desk_of c.args.desk.now) c.raised-g.result (c.loop-p.count + 1)
stepped c =
    let d = c.args.desk.now in
    let p = c.in-Some.p in
    let r = c.in-Some.ensures in
    let bare = found_bare (desk_of d) (at c.loop-p.g) p.parity p.source r.0 r.1 r.2 in
    reached_more (desk_of d) p.parity p.source d.within.k_high c.loop-p.invariant bare c.raised-g.ensures

pub overflow_add-count : goal.overflow_add-count
overflow_add-count c =
    let d = c.args.desk.now in
    let most = all_most (desk_of d) max_bits max_k (source_bits_high d.length d.within.l_high) d.within.k_high in
    omega (arith, most, reaches_short (desk_of d) (stepped (goal.at.overflow_add-count c).After-raised-g).steps)

pub loop-p-smaller : goal.loop-p-smaller
loop-p-smaller c = omega (arith, reaches_short _ (stepped (goal.at.loop-p-smaller c).After-raised-g).steps)

pub loop-p-preserved : goal.loop-p-preserved
loop-p-preserved c = stepped (goal.at.loop-p-preserved c).After-raised-g

pub returns : goal.returns
unfolding whole_b full_b
returns c =
    let D = desk_of c.args.desk.now in
    let r = c.loop-p.invariant in
    let stuck = no_pair D (at c.loop-p.g) (omega (arith, c.in_default.ensures)) in
    reached_end D r stuck (flagged D (at c.loop-p.g) (reaches_fits _ r.steps) _ (sym c.is_whole.ensures))
