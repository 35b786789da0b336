-- The parity's bit, and the bits of the missing sources that stand there: after each turn those below the next column are taken out. Assumes nothing.
use Prim.Native.Nat.{◌+◌, ◌%◌, ◌<◌}
use mathlib.Core.Path.{◌≡◌, sym, ap, ◌∙◌}
use native.Mathlib.Omega.{arith}
use Rattle.bits.specs.Sums.{at, sum}
use Rattle.bits.proofs.SumLaws.{mod_more}
use Rattle.table.specs.Desks.{desk_of}
use Rattle.rows.specs.Rows.{row_in}
use Rattle.rows.proofs.RowLaws.{row_lt}
use Rattle.code.specs.Code.{sum_of}
use Rattle.search.proofs.ListLaws.{listed_none, listed_more}
use Rattle.survivors.specs.Remainders.{source_in}
use Rattle.decode.proofs.MissingSums.{missing_bit, missing-bit-present, missing-bit-gone}
use Rattle.decode.proofs.steps.left_bit.Goals as goal

pub loop-j-init : goal.loop-j-init
loop-j-init c =
    let s = c.args in
    let D = desk_of s.desk.now in
    let x = source_in D s.rows.now in
    let none = listed_none s.desk.now.k s.desk.now.marks s.missing.now.columns s.missing.now.count s.desk.now.k c.requires.all_missing (missing_bit D x s.a s.q) (missing-bit-present D x s.a s.q) in
    c.bit_of-v.ensures.0 ∙ omega (arith, none, row_lt s.rows.now (s.desk.now.k + s.a) s.q)

pub loop-j-preserved : goal.loop-j-preserved
loop-j-preserved c =
    let s = c.args in
    let D = desk_of s.desk.now in
    let x = source_in D s.rows.now in
    let f = missing_bit D x s.a s.q in
    let L = c.requires.all_missing in
    let j = c.loop-j.j in
    let lj : j < s.missing.now.count = omega arith in
    let b = at s.missing.now.columns j in
    let row = row_in s.rows.now (s.desk.now.k + s.a) s.q in
    let more = listed_more s.desk.now.k s.desk.now.marks s.missing.now.columns s.missing.now.count s.desk.now.k L f (missing-bit-present D x s.a s.q) j lj in
    let one : c.shifted_bit.result ≡ f b = c.shifted_bit.ensures.value ∙ sym (missing-bit-gone D x s.a s.q b (L.gone j lj)) in
    mod_more c.loop-j.v row (sum b f) c.shifted_bit.result c.loop-j.invariant ∙ ap (λ y. (row + y) % 2) (omega (arith, more, one))

pub returns : goal.returns
unfolding sum_of
returns c =
    let s = c.args in
    let D = desk_of s.desk.now in
    let e : c.loop-j.j ≡ s.missing.now.count = omega arith in
    let f = missing_bit D (source_in D s.rows.now) s.a s.q in
    c.loop-j.invariant ∙ ap (λ n. (row_in s.rows.now (s.desk.now.k + s.a) s.q + sum n f) % 2) (ap (at s.missing.now.columns) e ∙ c.requires.all_missing.last)
