-- The stripes' bits are pushed in from below, the last stripe's first. Assumes nothing.
use mathlib.Core.Path.{◌≡◌, ◌∙◌}
use Prim.Native.Nat.{◌+◌, ◌-◌, ◌*◌, ◌<◌, ◌≤◌}
use native.Mathlib.Omega.{arith}
use lib.ListN.{length}
use Rattle.bits.specs.Bits.{bit_at, part}
use Rattle.bits.proofs.BitLaws.{bit_at_lt}
use Rattle.bits.proofs.SliceLaws.{slice-length}
use Rattle.lanes.proofs.WordLaws.{built_none, built_more, built_fits, built_all}
use Rattle.lanes.proofs.PlaceLaws.{stripe_in}
use Rattle.lanes.proofs.StripeLaws.{part-bit_ahead}
use Rattle.lanes.proofs.gather.Goals as goal
use Rattle.lanes.proofs.gather.Goals.{After-bit_of, In-loop-t}

pub loop-t-init : goal.loop-t-init
loop-t-init c = built_none _ _

-- the stripe that is read is one of them
within : (c : In-loop-t) → let a = c.args in let t = c.loop-t.t - 1 in t * a.log.now.size + a.log.now.size ≤ length a.log.now.packets.now
within c = stripe_in c.args.log.now _ (omega (arith, c.loop-t-test.true, c.loop-t.invariant.most))

pub overflow_mul-word : goal.overflow_mul-word
overflow_mul-word c =
    let f = built_fits _ 16 _ _ _ 0 c.loop-t-test.true c.args.log.now.few c.loop-t.invariant (omega arith) in
    omega (arith, f)

pub overflow_mul-t : goal.overflow_mul-t
overflow_mul-t c = omega (arith, within (goal.at.overflow_mul-t c).In-loop-t)

pub slice_bounds-bit_of-count : goal.slice_bounds-bit_of-count
slice_bounds-bit_of-count c = omega (arith, within (goal.at.slice_bounds-bit_of-count c).In-loop-t)

pub slice_bounds-bit_of-start : goal.slice_bounds-bit_of-start
slice_bounds-bit_of-start c = omega (arith, within (goal.at.slice_bounds-bit_of-start c).In-loop-t)

pub bit_of-requires : goal.bit_of-requires
bit_of-requires c =
    let log = c.args.log.now in
    let from = (c.loop-t.t - 1) * log.size in
    let xs = log.packets.now in
    let inside = within (goal.at.bit_of-requires c).In-loop-t in
    omega (arith, slice-length xs from (length xs - from) (omega (arith, inside)), inside, c.requires)

-- what was read is a bit, that of the stripe
read : (c : After-bit_of) → let a = c.args in
    (c.bit_of.result ≡ bit_at (part a.log.now.packets.now a.log.now.size (c.loop-t.t - 1)) a.q) × (c.bit_of.result < 2)
read c =
    let a = c.args in
    let xs = a.log.now.packets.now in
    let t = c.loop-t.t - 1 in
    let inside = stripe_in a.log.now t (omega (arith, c.loop-t-test.true, c.loop-t.invariant.most)) in
    let e = c.bit_of.ensures ∙ part-bit_ahead xs a.log.now.size t a.q c.requires inside in
    (e, omega (arith, e, bit_at_lt (part xs a.log.now.size t) a.q))

pub overflow_cast-word : goal.overflow_cast-word
overflow_cast-word c = omega (arith, (read (goal.at.overflow_cast-word c).After-bit_of).1)

pub overflow_add-word : goal.overflow_add-word
overflow_add-word c =
    let f = built_fits _ 16 _ _ _ _ c.loop-t-test.true c.args.log.now.few c.loop-t.invariant (read (goal.at.overflow_add-word c).After-bit_of).1 in
    omega (arith, f)

pub loop-t-preserved : goal.loop-t-preserved
loop-t-preserved c = built_more _ _ _ _ _ c.loop-t-test.true c.loop-t.invariant (read (goal.at.loop-t-preserved c).After-bit_of).1 (read (goal.at.loop-t-preserved c).After-bit_of).0

pub returns : goal.returns
returns c = built_all _ _ _ _ c.loop-t-test.false c.loop-t.invariant
