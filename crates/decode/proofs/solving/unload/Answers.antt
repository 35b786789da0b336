-- The rows at the places that are not yet reached are as they were. Assumes nothing.
use native.Mathlib.Omega.{arith}
use mathlib.Core.Path.{◌≡◌}
use Prim.Native.Nat.{ℕ}
use Rattle.bits.specs.Sums.{at}
use Rattle.table.specs.Desks.{desk_of}
use Rattle.rows.specs.Rows.{row_in}
use Rattle.plan.specs.Plan.{listed_shift}
use Rattle.decode.proofs.LoadLaws.{all_none, all_more, down_cut_same}
use Rattle.decode.proofs.solving.unload.Goals as goal

pub loop-b-init : goal.loop-b-init
loop-b-init c =
    let s = c.args in
    all_none _ s.missing.now.columns s.rows.now

pub lower_and_cut-requires : goal.lower_and_cut-requires
lower_and_cut-requires c =
    let l = c.loop-b in record {
      has_row = omega (arith, l.auto.rows, c.requires.sited.has l.b (omega arith));
      e_le_max_shift = c.listed_shift-e.ensures.1;
    }

pub loop-b-preserved : goal.loop-b-preserved
loop-b-preserved c =
    let l = c.loop-b in
    let rows = c.args.rows.now in
    let P = c.requires.sited in
    let t = listed_shift (desk_of c.args.desk.now) c.args.plan.now.rows c.args.missing.now.columns in
    let row = at c.args.missing.now.columns l.b in
    let end = c.source_bytes-end in
    let here = c.listed_shift-e in
    let still : (q : ℕ) → row_in l.rows row q ≡ row_in rows row q = λ q. l.invariant.others row q (λ j lj. P.apart j l.b (omega arith) (omega arith) (λ e. omega arith)) in
    all_more _ c.args.missing.now.columns rows l.b _ l.rows _ (λ j lj. P.apart l.b j (omega arith) (omega arith) (λ e. omega arith)) l.invariant c.lower_and_cut.ensures
    (λ p lp. down_cut_same _ c.args.desk.now.length _ (t 0 l.b) (row_in l.rows row) (row_in rows row) p end.ensures here.ensures.0 still)

pub returns : goal.returns
returns c =
    let l = c.loop-b in
    let done : l.b ≡ c.args.missing.now.count = omega arith in
    rw done at l.invariant
