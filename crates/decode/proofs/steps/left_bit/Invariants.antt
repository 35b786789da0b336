-- The parity's bit, and the bits of the missing sources that stand there: after each turn those below the next column are taken out. Assumes nothing.
use Prim.Native.Nat.{◌+◌, ◌%◌}
use mathlib.Core.Path.{◌≡◌}
use Rattle.bits.specs.Sums.{at, sum}
use Rattle.table.specs.Desks.{desk_of}
use Rattle.rows.specs.Rows.{row_in}
use Rattle.survivors.specs.Remainders.{source_in}
use Rattle.decode.proofs.MissingSums.{missing_bit}
use Rattle.decode.proofs.steps.left_bit.Given as goal

abbrev pub invariant-loop-j : goal.invariant-loop-j
invariant-loop-j l = (l.v ≡ (row_in l.rows (l.desk.k + l.a) l.q + sum (at l.missing.columns l.j) (missing_bit (desk_of l.desk) (source_in (desk_of l.desk) l.rows) l.a l.q)) % 2)
