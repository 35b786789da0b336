-- The words' bits are pushed in from below, the last word's first. Assumes nothing.
use native.Mathlib.Omega.{arith}
use Rattle.lanes.proofs.WordLaws.{built_none, built_more, built_fits, built_all, bit_taken}
use Rattle.lanes.proofs.lane_byte.Goals as goal

pub loop-j-init : goal.loop-j-init
loop-j-init c = built_none _ _

pub overflow_mul-byte : goal.overflow_mul-byte
overflow_mul-byte c =
    let f = built_fits _ 8 _ _ _ 0 c.loop-j-test.true (omega arith) c.loop-j.invariant (omega arith) in
    omega (arith, f)

pub overflow_add-byte : goal.overflow_add-byte
overflow_add-byte c = omega (arith, c.loop-j.invariant.most)

pub offset_bounds-lanes-first : goal.offset_bounds-lanes-first
offset_bounds-lanes-first c = omega (arith, c.loop-j.invariant.most)

pub bounds-lanes-first : goal.bounds-lanes-first
bounds-lanes-first c = omega (arith, c.loop-j.invariant.most)

pub overflow_add-byte-in-loop-j : goal.overflow_add-byte-in-loop-j
overflow_add-byte-in-loop-j c =
    let f = built_fits _ 8 _ _ _ 1 c.loop-j-test.true (omega arith) c.loop-j.invariant (omega arith) in
    omega (arith, f)

pub loop-j-preserved : goal.loop-j-preserved
loop-j-preserved c = built_more _ _ _ _ _ c.loop-j-test.true c.loop-j.invariant (bit_taken _ _).1 (bit_taken _ _).0

pub returns : goal.returns
returns c = built_all _ _ _ _ c.loop-j-test.false c.loop-j.invariant
