-- Parity after parity is put in its place, after those that stand there. Assumes nothing.
use Prim.Native.Nat.{◌+◌, ◌*◌, ◌≤◌}
use mathlib.Core.Path.{◌≡◌}
use lib.Dec.{leb}
use Rattle.table.specs.Limits.{longest}
use Rattle.table.specs.Desk.{place_of}
use Rattle.table.specs.Desks.{desk_of}
use Rattle.code.proofs.RowLaws.{Stand}
use Rattle.code.proofs.encode_parities.Given as goal

abbrev pub invariant-loop-a : goal.invariant-loop-a
invariant-loop-a l =
    let D = desk_of l.desk in
    (l.start ≡ place_of D (leb l.desk.k) (l.desk.k + l.a)) × (l.start ≤ longest * l.a) × Stand D l.sources l.a l.out
