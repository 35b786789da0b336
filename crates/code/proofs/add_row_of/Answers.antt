-- Source after source is added, each at its own shift, and all of them fit the row. Assumes nothing.
use Rattle.std.proofs.Common.{◌≡◌, arith}
use Rattle.table.specs.Desks.{desk_of}
use Rattle.table.proofs.Bounds.{within_bounds}
use Rattle.code.proofs.CodeLaws.{source_taken}
use Rattle.code.proofs.RowLaws.{sums_none, sums_more, sums_all}
use Rattle.code.proofs.add_row_of.Goals as goal

pub loop-b-init : goal.loop-b-init
loop-b-init c = let s = c.args in sums_none (desk_of s.desk.now) s.sources.now s.a s.at s.rows.now

pub loop-b-preserved : goal.loop-b-preserved
loop-b-preserved c =
    let s = c.args in
    let D = desk_of s.desk.now in
    let taken = source_taken D (within_bounds s.desk.now) s.sources.now c.requires.shifts_in_bounds c.loop-b.b _ (omega arith) c.requires.bytes_value in
    let e : c.shift_of-e.result ≡ D.shift s.a c.loop-b.b = omega (arith, c.shift_of-e.ensures.0) in
    sums_more D s.sources.now s.a s.at s.rows.now c.loop-b.rows _ c.loop-b.b c.shift_of-e.result _ taken.same e c.loop-b.invariant c.add_bytes.ensures

pub returns : goal.returns
returns c =
    let s = c.args in
    sums_all (desk_of s.desk.now) s.sources.now s.a s.at s.rows.now c.loop-b.rows c.loop-b.b (omega arith) c.loop-b.invariant
