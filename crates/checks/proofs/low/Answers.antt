-- The most of the entries is above the limit exactly where one of them is. Assumes nothing.
use Prim.Native.Nat.{◌≤◌}
use native.Mathlib.Omega.{arith}
use native.Mathlib.Decide.{dec_le}
use borrow.Author.Count.{below_more}
use borrow.Author.Tests.{le-leb, lt-leb}
use Rattle.bits.specs.Sums.{at}
use Rattle.bits.proofs.BitLaws.{tells_so, tells_not}
use Rattle.table.proofs.TableLaws.{low_all}
use Rattle.checks.proofs.low.Goals as goal
use Rattle.checks.proofs.low.Goals.{then-most-table, else-most-table}

pub loop-i-preserved : goal.loop-i-preserved
loop-i-preserved c =
    let t = c.args.table.now in
    let inv = c.loop-i.invariant in (
      λ all. elim c.if-most-table.branch [
        | then-most-table w ↦ omega (arith, w.most-is, all c.loop-i.i (omega arith))
        | else-most-table w ↦ omega (arith, w.most-is, inv.0 (λ j l. all j (omega arith)))
      ],
      below_more (λ j. at t j ≤ c.if-most-table.most) c.loop-i.i
          (λ j l. elim c.if-most-table.branch [ then-most-table w ↦ omega (arith, w.most-is, w.if-most-table.true, inv.1 j l) | else-most-table w ↦ omega (arith, w.most-is, inv.1 j l) ])
          (elim c.if-most-table.branch [ then-most-table w ↦ omega (arith, w.most-is) | else-most-table w ↦ omega (arith, w.most-is, w.if-most-table.false) ]),
    )

pub returns : goal.returns
returns c =
    let inv = c.loop-i.invariant in
    elim (dec_le c.loop-i.most 64) [
      | yes h ↦ rw (le-leb c.loop-i.most 64 h) (tells_so (low_all c.args.table.now c.loop-i.i (omega arith) (λ j l. omega (arith, h, inv.1 j l))))
      | no h ↦ rw (lt-leb c.loop-i.most 64 (omega arith)) (tells_not (λ all. h (inv.0 (λ j _. all j))))
    ]
