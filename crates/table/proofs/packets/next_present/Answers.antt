-- The packets that the trailing zeros pass over are missing, and the one they end at is present. Assumes nothing.
use mathlib.Core.Path.{◌≡◌, subst}
use mathlib.Core.Bool.{true}
use Prim.Native.Nat.{◌+◌, ◌/◌, ◌^◌}
use native.Mathlib.Omega.{arith}
use native.Mathlib.Decide.{dec_lt}
use lib.Count.{count_trailing_zeros}
use Rattle.table.specs.Table.{NextMark}
use Rattle.table.proofs.MarkLaws.{present_here, present_none, present_no_more}
use Rattle.table.proofs.packets.next_present.Goals as goal

pub returns-then-rest-eq0 : goal.returns-then-rest-eq0
returns-then-rest-eq0 c = let a = c.args in present_no_more a.marks a.i a.n (omega arith) c.if-rest-eq0.true

pub returns : goal.returns
returns c =
    let a = c.args in
    let next = a.i + count_trailing_zeros 64 (a.marks / 2 ^ a.i) in
    elim (dec_lt next a.n) [
      | yes l ↦ let e : next ≡ c.min.result = omega (arith, c.min.ensures) in subst (NextMark true a.marks a.i a.n) e (present_here a.marks a.i a.n l (omega arith))
      | no l ↦ let e : a.n ≡ c.min.result = omega (arith, c.min.ensures) in subst (NextMark true a.marks a.i a.n) e (present_none a.marks a.i a.n (omega arith) (omega arith))
    ]
