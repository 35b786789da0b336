-- Source after source is stored in its place, behind those that stand there. Assumes nothing.
use Prim.Native.Nat.{◌+◌, ◌*◌, ◌≤◌}
use mathlib.Core.Path.{◌≡◌, ◌∙◌, subst}
use native.Mathlib.Nat.{mul-le-mul}
use native.Mathlib.Omega.{arith}
use borrow.Author.Rules.{rules}
use Rattle.bits.proofs.SliceLaws.{part_in}
use Rattle.table.specs.Limits.{all_sources}
use mathlib.Core.List.{[]}
use Rattle.table.specs.Desk.{desk}
use Rattle.rows.specs.Rows.{row_in, Stored}
use Rattle.survivors.proofs.SourcesIn.{are_sources_in}
use Rattle.rebuild.proofs.StoreLaws.{StandBelow, stand_none, stand_more}
use Rattle.rebuild.proofs.put_sources.Goals as goal
use Rattle.rebuild.proofs.put_sources.Goals.{After-store-arg-1}

pub loop-c-init : goal.loop-c-init
loop-c-init c = stand_none _ _ _

-- source c ends within the sources, which are few
ends : (c : After-store-arg-1) → (c.loop-c.c * c.args.l + c.args.l ≤ c.args.k * c.args.l) × (c.args.k * c.args.l ≤ all_sources)
ends c =
    (part_in c.loop-c.c c.args.k c.args.l _ (search rules) (omega arith), mul-le-mul c.requires.k_le_max_k c.requires.l_le_max_length)

pub overflow_mul-c : goal.overflow_mul-c
overflow_mul-c c = let n = c.source_bytes-bytes.ensures in rw n (omega (arith, (ends (goal.at.overflow_mul-c c).After-store-arg-1).0, (ends (goal.at.overflow_mul-c c).After-store-arg-1).1))

pub store-requires : goal.store-requires
store-requires c =
    let n = c.source_bytes-bytes.ensures in record {
      has_row = omega (arith, c.requires.k_le_max_k, c.requires.roomy);
      n_le_longest = omega (arith, n, c.requires.l_le_max_length);
      n_in_bounds = rw n (omega (arith, (ends (goal.at.store-requires c).After-store-arg-1).0, c.loop-c.auto.out, c.requires.out_len));
    }

pub loop-c-preserved : goal.loop-c-preserved
loop-c-preserved c =
    let s = c.args in
    let n = c.source_bytes-bytes.ensures in
    let S = subst (λ n. Stored (c.loop-c.c * n) n (row_in s.rows.now c.loop-c.c) c.loop-c.out c.store.new.dst) n c.store.ensures in
    stand_more s.l s.rows.now c.loop-c.c _ _ S c.loop-c.invariant

pub returns : goal.returns
returns c =
    let all : c.loop-c.c ≡ c.args.k = omega arith in
    are_sources_in (desk c.args.k 0 c.args.l [] 0) c.args.rows.now c.loop-c.out c.known.ensures (c.loop-c.auto.out ∙ c.requires.out_len)
    (subst (λ n. StandBelow c.args.l c.args.rows.now n c.loop-c.out) all c.loop-c.invariant)
