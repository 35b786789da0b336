-- Byte after byte is stored behind those that stand there. Assumes nothing.
use mathlib.Core.Path.{◌≡◌, ap, ◌∙◌, subst}
use Prim.Native.Nat.{ℕ, ◌+◌, ◌*◌, ◌<◌}
use native.Mathlib.Omega.{arith}
use borrow.Author.Rules.{rules}
use Rattle.bits.specs.Sums.{at}
use Rattle.bits.specs.Bits.{bit}
use Rattle.rows.specs.Rows.{Stored}
use Rattle.rows.proofs.StoreLaws.{stored_none}
use Rattle.lanes.proofs.PutLaws.{stored_next}
use Rattle.lanes.proofs.put_lane.Goals as goal

pub loop-i-init : goal.loop-i-init
loop-i-init c = stored_none _ _ _

pub lane_byte-requires : goal.lane_byte-requires
lane_byte-requires c =
    record {
      first_in_bounds = omega arith;
      t_lt_max_stripes = search rules;
    }

pub bounds-out-from : goal.bounds-out-from
bounds-out-from c = omega (arith, c.loop-i.invariant.size)

pub loop-i-preserved : goal.loop-i-preserved
loop-i-preserved c =
    let l = c.loop-i in
    let a = c.args in
    let byte : (j : ℕ) → j < 8 → bit c.lane_byte.result j ≡ bit (at a.lanes.now (a.first + 8 * l.i + j)) a.t = c.lane_byte.ensures in
    stored_next a.from l.i c.lane_byte.result _ a.out.now l.out (omega arith) (omega arith)
    (λ j lj. byte j lj ∙ ap (λ x. bit (at a.lanes.now x) a.t) (omega arith)) l.invariant

pub shape_of-out : goal.shape_of-out
shape_of-out c = c.loop-i.invariant.size

pub returns : goal.returns
returns c =
    let l = c.loop-i in
    let a = c.args in
    let all : l.i ≡ a.n = omega arith in
    subst (λ n. Stored a.from n (λ p. bit (at a.lanes.now (a.first + p)) a.t) a.out.now l.out) all l.invariant
