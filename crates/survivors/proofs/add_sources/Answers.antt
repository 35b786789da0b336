-- From one marked source to the next each is added to the row, shifted up by its entry. Assumes nothing.
use native.Mathlib.Omega.{arith}
use Rattle.survivors.proofs.RestLaws.{sources-first, sources_next, sources_last}
use Rattle.survivors.proofs.add_sources.Goals as goal

pub loop-b-init : goal.loop-b-init
loop-b-init c = (c.requires.roomy, sources-first c.args.desk.now c.args.a c.args.marks c.args.rows.now _ c.next_present-b.ensures)

pub add_up-requires : goal.add_up-requires
add_up-requires c =
    let w = c.args.desk.now.within in
    let size = c.loop-b.invariant.0 in record {
      has_row = omega (arith, size, w.k_high, w.m_high, c.requires.a_lt_m);
      has_row_2 = omega (arith, size, w.k_high);
      a_nonzero = (λ e. omega arith);
      e_le_max_shift = c.shift_of-e.ensures.1;
    }

pub loop-b-smaller : goal.loop-b-smaller
loop-b-smaller c = let N = c.next_present-b-in-loop-b.ensures in omega (arith, N.from)

pub loop-b-preserved : goal.loop-b-preserved
loop-b-preserved c =
    let s = c.args in
    let t = c.loop-b in (
      omega (arith, t.invariant.0),
      sources_next s.desk.now s.a s.marks s.rows.now _ _ _ t.rows _ t.invariant.1
          c.loop-b-test.true c.shift_of-e.ensures.0 c.next_present-b-in-loop-b.ensures c.add_up.ensures,
    )

pub returns : goal.returns
returns c =
    let s = c.args in
    sources_last s.desk.now s.a s.marks s.rows.now _ c.loop-b.rows c.loop-b.invariant.1 c.loop-b-test.false
