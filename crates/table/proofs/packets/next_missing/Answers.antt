-- The packets that the trailing ones pass over are present, and the one they end at is missing. Assumes nothing.
use mathlib.Core.Path.{◌≡◌, subst}
use mathlib.Core.Bool.{false}
use Prim.Native.Nat.{◌+◌, ◌-◌, ◌/◌, ◌^◌, ◌≤◌}
use native.Mathlib.Nat.{div-le_self}
use native.Mathlib.Omega.{arith}
use native.Mathlib.Decide.{dec_lt}
use lib.Count.{count_trailing_zeros}
use Rattle.table.specs.Table.{NextMark}
use Rattle.table.proofs.MarkLaws.{missing_here, missing_none}
use Rattle.table.proofs.packets.next_missing.Goals as goal

pub returns : goal.returns
returns c =
    let a = c.args in
    let l : a.marks / 2 ^ a.i ≤ 18446744073709551615 = omega (arith, div-le_self a.marks (2 ^ a.i)) in
    let rest = 18446744073709551615 - a.marks / 2 ^ a.i in
    let next = a.i + count_trailing_zeros 64 rest in
    elim (dec_lt next a.n) [
      | yes h ↦ let e : next ≡ c.min.result = omega (arith, c.min.ensures) in subst (NextMark false a.marks a.i a.n) e (missing_here a.marks a.i rest (omega arith) a.n h (omega arith))
      | no h ↦ let e : a.n ≡ c.min.result = omega (arith, c.min.ensures) in subst (NextMark false a.marks a.i a.n) e (missing_none a.marks a.i rest (omega arith) a.n (omega arith) (omega arith))
    ]
