-- Each missing source is looked at, and those between them are present; after the last all sources were looked at. Assumes nothing.
use Prim.Native.Nat.{◌+◌, ◌<◌}
use native.Mathlib.Omega.{arith}
use Rattle.bits.specs.Sums.{at}
use Rattle.table.specs.Desks.{desk_of}
use Rattle.search.proofs.SearchLaws.{leading_none, leading_to}
use Rattle.search.proofs.row_source.Goals as goal

pub loop-j-init : goal.loop-j-init
loop-j-init c =
    let s = c.args in
    leading_none (desk_of s.desk.now) (at s.g.now) s.a (at s.missing.now.columns 0) _ c.requires.all_missing.first

pub loop-j-preserved : goal.loop-j-preserved
loop-j-preserved c =
    let s = c.args in
    let columns = s.missing.now.columns in
    let j = c.loop-j.j in
    let below : j < s.missing.now.count = omega arith in
    let passed = c.requires.all_missing.between j below in
    leading_to (desk_of s.desk.now) (at s.g.now) s.a (at columns j + 1) (at columns (j + 1)) _ _ passed (c.lower-x.ensures c.loop-j.invariant)
