-- Source after source is stored in its place, behind those that stand there. Assumes nothing.
use mathlib.Core.Path.{◌≡◌, sym, ◌∙◌, subst}
use Prim.Native.Nat.{◌+◌, ◌-◌, ◌*◌, ◌≤◌, ◌<◌}
use native.Mathlib.Omega.{arith}
use lib.ListN.{length}
use Rattle.bits.specs.Sums.{at}
use Rattle.bits.proofs.SliceLaws.{slice-length}
use Rattle.table.specs.Limits.{max_k}
use Rattle.table.specs.Desks.{desk_of}
use Rattle.table.proofs.Bounds.{within_bounds}
use Rattle.rows.specs.Rows.{Stored}
use Rattle.code.proofs.CodeLaws.{SourceTaken, source_taken}
use Rattle.lanes.proofs.StripeLaws.{StandBelow, stand_none, stand_present, stand_missing, present_ends, all_stand}
use Rattle.lanes.proofs.read_stripe.Goals as goal
use Rattle.lanes.proofs.read_stripe.Goals.{In-loop-c, Joined-marked, Then-marked, then-marked, else-marked}

pub loop-c-init : goal.loop-c-init
loop-c-init c = stand_none _ _ _ _ _

-- source c has its place in out
placed : (c : In-loop-c) → let a = c.args in
    SourceTaken (desk_of a.log.now.desk.now) c.loop-c.out c.loop-c.c c.source_bytes-bytes.result
placed c =
    let a = c.args in
    source_taken (desk_of a.log.now.desk.now) (within_bounds a.log.now.desk.now) c.loop-c.out
    (omega (arith, c.loop-c.auto.out, c.requires.out_len)) c.loop-c.c _ (omega arith) c.source_bytes-bytes.ensures

-- and it is one of those that there can be
few : (c : In-loop-c) → c.loop-c.c < max_k
few c = omega (arith, c.args.log.now.desk.now.within.k_high)

pub marked-requires : goal.marked-requires
marked-requires c = omega (arith, few (goal.at.marked-requires c).In-loop-c)

-- where source c is present, it ends within the packets
ends : (c : Then-marked) → let a = c.args in
    let place = at a.log.now.places c.loop-c.c in
    a.t * a.log.now.size + place + c.source_bytes-bytes.result ≤ length a.log.now.packets.now
ends c =
    let a = c.args in
    let there = sym c.marked.ensures ∙ c.if-marked.true in
    let lc : c.loop-c.c < a.log.now.desk.now.k = omega arith in
    present_ends (desk_of a.log.now.desk.now) a.log.now.packets.now a.lanes.now a.t a.log.now.stripes a.log.now.size _ _ c.loop-c.c c.requires.t_lt_stripes c.args.log.now.filled c.args.log.now.sized
    lc there (c.args.log.now.placed c.loop-c.c (omega arith) there) c.source_bytes-bytes.ensures

pub overflow_mul-from : goal.overflow_mul-from
overflow_mul-from c = omega (arith, ends (goal.at.overflow_mul-from c).Then-marked)

pub overflow_cast-from : goal.overflow_cast-from
overflow_cast-from c = omega (arith, ends (goal.at.overflow_cast-from c).Then-marked)

pub overflow_add-from : goal.overflow_add-from
overflow_add-from c = omega (arith, ends (goal.at.overflow_add-from c).Then-marked)

pub overflow_add-end : goal.overflow_add-end
overflow_add-end c = omega (arith, ends (goal.at.overflow_add-end c).Then-marked)

pub slice_bounds-put_bytes-end : goal.slice_bounds-put_bytes-end
slice_bounds-put_bytes-end c = omega (arith, ends (goal.at.slice_bounds-put_bytes-end c).Then-marked)

pub overflow_mul-c : goal.overflow_mul-c
overflow_mul-c c = omega (arith, (placed (goal.at.overflow_mul-c c).In-loop-c).few)

pub put_bytes-requires : goal.put_bytes-requires
put_bytes-requires c =
    let a = c.args in
    let n = c.source_bytes-bytes.result in
    let from = a.t * a.log.now.size + at a.log.now.places c.loop-c.c in
    omega (arith, slice-length a.log.now.packets.now from (from + n - from) (omega (arith, ends (goal.at.put_bytes-requires c).Then-marked)), (placed (goal.at.put_bytes-requires c).In-loop-c).within)

pub overflow_mul-c-else-marked : goal.overflow_mul-c-else-marked
overflow_mul-c-else-marked c = omega (arith, few (goal.at.overflow_mul-c-else-marked c).In-loop-c)

pub overflow_mul-c-else-marked-2 : goal.overflow_mul-c-else-marked-2
overflow_mul-c-else-marked-2 c = omega (arith, (placed (goal.at.overflow_mul-c-else-marked-2 c).In-loop-c).few)

pub put_lane-requires : goal.put_lane-requires
put_lane-requires c =
    let B = within_bounds c.args.log.now.desk.now in record {
      n_in_bounds = omega (arith, few (goal.at.put_lane-requires c).In-loop-c, B.bytes_high, c.source_bytes-bytes.ensures, c.requires.lanes_len);
      t_lt_max_stripes = omega (arith, c.args.log.now.few, c.requires.t_lt_stripes);
      n_in_bounds_2 = (placed (goal.at.put_lane-requires c).In-loop-c).within;
    }

-- by either way source c stands behind those before it
stands : (c : Joined-marked) → let a = c.args in
    StandBelow (desk_of a.log.now.desk.now) a.log.now.packets.now a.lanes.now a.t (c.loop-c.c + 1) c.if-marked.out
stands c =
    let a = c.args in
    let D = desk_of a.log.now.desk.now in
    let n = c.source_bytes-bytes.ensures in
    let i = c.loop-c.c in
    let lc : c.loop-c.c < a.log.now.desk.now.k = omega arith in
    elim c.if-marked.branch [
      | then-marked w ↦
          let there = sym c.marked.ensures ∙ w.if-marked.true in
          let S = subst (λ out. Stored (i * c.source_bytes-bytes.result) _ _ c.loop-c.out out) (sym w.out-is) w.put_bytes.ensures in
          let held = c.args.log.now.placed i (omega arith) there in
          let log = a.log.now in
          stand_present D log.packets.now a.lanes.now a.t log.size _ _ i c.loop-c.out c.if-marked.out log.sized lc there held n
          (present_ends D log.packets.now a.lanes.now a.t log.stripes log.size _ _ i c.requires.t_lt_stripes log.filled log.sized lc there held n) S c.loop-c.invariant
      | else-marked w ↦
          let gone = sym c.marked.ensures ∙ w.if-marked.false in
          let S = subst (λ out. Stored (i * c.source_bytes-bytes.result) _ _ c.loop-c.out out) (sym w.out-is) w.put_lane.ensures in
          stand_missing D a.log.now.packets.now a.lanes.now a.t _ i c.loop-c.out c.if-marked.out (lc, gone) n S c.loop-c.invariant
    ]

pub loop-c-preserved : goal.loop-c-preserved
loop-c-preserved c = stands (goal.at.loop-c-preserved c).Joined-marked

pub returns : goal.returns
returns c =
    let a = c.args in
    let D = desk_of a.log.now.desk.now in
    let all : c.loop-c.c ≡ a.log.now.desk.now.k = omega arith in
    all_stand D a.log.now.packets.now a.lanes.now a.t c.loop-c.out (subst (λ n. StandBelow D a.log.now.packets.now a.lanes.now a.t n c.loop-c.out) all c.loop-c.invariant)
