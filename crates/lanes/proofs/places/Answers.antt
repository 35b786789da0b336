-- The packets at hand follow one another without gaps, so that each stands where the one before it ends; all places are below 2 ^ 16. Assumes nothing.
use Prim.Native.Nat.{◌+◌, ◌*◌, ◌≤◌}
use mathlib.Core.Path.{refl, ap}
use native.Mathlib.Omega.{arith}
use lib.ListN.{replicate}
use Rattle.table.specs.Limits.{max_packets, longest}
use Rattle.table.specs.Desks.{desk_of}
use Rattle.table.proofs.Bounds.{within_bounds}
use Rattle.survivors.proofs.AtHand.{at_first, at_next}
use Rattle.lanes.proofs.PlaceLaws.{places_first, places_next, place_short}
use Rattle.lanes.proofs.places.Goals as goal
use Rattle.lanes.proofs.places.Goals.{At-loop-i}

pub loop-i-init : goal.loop-i-init
loop-i-init c =
    let s = c.args in
    let D = desk_of s.desk.now in
    let N = c.next_present-i.ensures in
    (at_first D s.desk.now.marks _ _ N, places_first D s.desk.now.marks _ _ (replicate max_packets 0) refl N)

-- no packet at hand starts past as many of the longest as there can be
low : (c : At-loop-i) → c.loop-i.from ≤ max_packets * longest
low c =
    let w = c.args.desk.now.within in
    let D = desk_of c.args.desk.now in
    let A = c.loop-i.invariant.0 in
    omega (arith, A.starts, A.most, place_short D (within_bounds c.args.desk.now) D.present c.loop-i.i, w.k_high, w.m_high)

pub overflow_cast-places : goal.overflow_cast-places
overflow_cast-places c = omega (arith, low (goal.at.overflow_cast-places c).At-loop-i)

pub overflow_add-from : goal.overflow_add-from
overflow_add-from c = omega (arith, low (goal.at.overflow_add-from c).At-loop-i, c.bytes_of-from.ensures.1)

pub loop-i-smaller : goal.loop-i-smaller
loop-i-smaller c = let N = c.next_present-i-in-loop-i.ensures in omega (arith, N.from)

pub loop-i-preserved : goal.loop-i-preserved
loop-i-preserved c =
    let w = c.args.desk.now.within in
    let D = desk_of c.args.desk.now in
    let marks = c.args.desk.now.marks in
    let A = c.loop-i.invariant.0 in
    let N = c.next_present-i-in-loop-i.ensures in (
      at_next D marks _ _ _ A c.loop-i-test.true _ _ (ap (λ x. c.loop-i.from + x) c.bytes_of-from.ensures.0) N,
      places_next D marks _ _ _ _ c.loop-i.places A (omega (arith, c.loop-i-test.true, w.k_high, w.m_high)) N c.loop-i.invariant.1,
    )

pub returns : goal.returns
returns c = λ i h e. c.loop-i.invariant.1.listed i (omega (arith, c.loop-i-test.false)) e
