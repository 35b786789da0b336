-- The marked sources are added into the row of each parity at hand, from one to the next. Assumes nothing.
use native.Mathlib.Omega.{arith}
use Rattle.survivors.proofs.RestLaws.{rests_first, rests_next, rests_last}
use Rattle.survivors.proofs.add_to_rests.Goals as goal

pub loop-i-init : goal.loop-i-init
loop-i-init c = (c.requires.roomy, rests_first c.args.desk.now c.args.targets _ c.next_present-i.ensures _ c.args.rows.now)

pub overflow_sub-i : goal.overflow_sub-i
overflow_sub-i c = omega (arith, c.loop-i.invariant.1.from)

pub add_sources-requires : goal.add_sources-requires
add_sources-requires c =
    record {
      a_lt_m = omega (arith, c.loop-i.invariant.1.from, c.loop-i-test.true);
      roomy = omega (arith, c.loop-i.invariant.0);
    }

pub loop-i-smaller : goal.loop-i-smaller
loop-i-smaller c = let N = c.next_present-i-in-loop-i.ensures in omega (arith, N.from)

pub loop-i-preserved : goal.loop-i-preserved
loop-i-preserved c =
    let s = c.args in (
      omega (arith, c.loop-i.invariant.0),
      rests_next s.desk.now s.targets _ _ s.marks s.rows.now c.loop-i.rows _ c.loop-i.invariant.1 c.loop-i-test.true c.next_present-i-in-loop-i.ensures c.add_sources.ensures,
    )

pub returns : goal.returns
returns c = rests_last c.args.desk.now c.args.targets c.requires.m_value _ _ c.args.rows.now c.loop-i.rows c.loop-i.invariant.1 c.loop-i-test.false
