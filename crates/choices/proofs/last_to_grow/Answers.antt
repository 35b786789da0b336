-- What is passed from the end on is full, so the first number that leaves more room is the last that can grow.
use Prim.Native.Nat.{◌+◌, ◌-◌}
use mathlib.Core.Path.{◌≡◌}
use native.Mathlib.Omega.{arith}
use lib.ListN.{length}
use borrow.Author.Rules.{rules}
use Rattle.table.specs.Limits.{max_k}
use Rattle.choices.proofs.Holding.{take_rising, full_more, all_full}
use Rattle.choices.proofs.last_to_grow.Goals as goal

pub loop-i-init : goal.loop-i-init
loop-i-init c =
    let n : length c.args.ids ≡ max_k = search rules in
    all_full c.args.n c.args.k c.args.ids (omega arith)

pub overflow_add-ids : goal.overflow_add-ids
overflow_add-ids c =
    let i = c.loop-i.i in
    let n : length c.args.ids ≡ max_k = search rules in
    omega (arith, take_rising c.args.n c.args.k c.args.ids (omega arith) c.requires.2 (i - 1) (omega arith))

pub returns-then-ids-i : goal.returns-then-ids-i
returns-then-ids-i c =
    let i = c.loop-i.i in
    let e : i - 1 + 1 ≡ i = omega arith in
    (omega arith, rw e c.loop-i.invariant, c.if-ids-i.true)

pub loop-i-preserved : goal.loop-i-preserved
loop-i-preserved c =
    let n : length c.args.ids ≡ max_k = search rules in
    full_more c.args.n c.args.k c.args.ids (omega arith) c.loop-i.i (omega arith) (omega arith) c.requires.2 c.loop-i.invariant (omega (arith, c.if-ids-i.false))

pub returns : goal.returns
returns c =
    let z : c.loop-i.i ≡ 0 = omega arith in
    rw z at c.loop-i.invariant
