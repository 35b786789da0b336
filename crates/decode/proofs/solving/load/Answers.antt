-- The rows of the parities stand at none of the places, and are read as they were. Assumes nothing.
use native.Mathlib.Omega.{arith}
use mathlib.Core.Path.{◌≡◌, ◌∙◌}
use Prim.Native.Nat.{ℕ, ◌+◌, ◌<◌}
use Rattle.bits.specs.Sums.{at}
use Rattle.table.specs.Desks.{desk_of}
use Rattle.rows.specs.Rows.{row_in}
use Rattle.plan.specs.Plan.{listed_shift}
use Rattle.decode.proofs.LoadLaws.{all_none, all_more, up_down_same}
use Rattle.decode.proofs.solving.load.Goals as goal

pub loop-i-init : goal.loop-i-init
loop-i-init c =
    let s = c.args in
    all_none _ s.missing.now.columns s.rows.now

pub put_shifted-requires : goal.put_shifted-requires
put_shifted-requires c =
    let l = c.loop-i in
    let N = c.requires.inside in
    let P = c.requires.sited in
    let li : l.i < c.args.missing.now.count = omega arith in record {
      has_row = omega (arith, l.auto.rows, P.has l.i li);
      has_row_2 = omega (arith, l.auto.rows, c.requires.roomy, c.args.desk.now.within.k_high, c.args.desk.now.within.m_high, N.rows_in l.i li);
      a_nonzero = λ e. omega (arith, N.columns_in l.i li);
      e_le_max_shift = (
        omega (arith, c.listed_shift-e.ensures.1, c.listed_shift-d.ensures.1),
        omega (arith, c.listed_shift-e.ensures.1, c.listed_shift-d.ensures.1),
      );
      by_index = λ p. l.invariant.others (at c.args.missing.now.columns l.i) p (λ j lj. P.apart j l.i (omega arith) li (λ e. omega arith)) ∙ c.requires.by_index l.i p li;
    }

pub loop-i-preserved : goal.loop-i-preserved
loop-i-preserved c =
    let l = c.loop-i in
    let rows = c.args.rows.now in
    let N = c.requires.inside in
    let P = c.requires.sited in
    let t = listed_shift (desk_of c.args.desk.now) c.args.plan.now.rows c.args.missing.now.columns in
    let row = c.args.desk.now.k + at c.args.plan.now.rows l.i in
    let first = c.listed_shift-e in
    let here = c.listed_shift-d in
    let still : (q : ℕ) → row_in l.rows row q ≡ row_in rows row q = λ q. l.invariant.others row q (λ j lj e. omega (arith, N.columns_in j (omega arith))) in
    all_more _ c.args.missing.now.columns rows l.i _ l.rows _ (λ j lj. P.apart l.i j (omega arith) (omega arith) (λ e. omega arith)) l.invariant c.put_shifted.ensures
    (λ p lp. up_down_same _ (t 0 0) _ (t l.i 0) (row_in l.rows row) (row_in rows row) p first.ensures.0 here.ensures.0 still)

pub returns : goal.returns
returns c =
    let l = c.loop-i in
    let done : l.i ≡ c.args.missing.now.count = omega arith in
    rw done at l.invariant
