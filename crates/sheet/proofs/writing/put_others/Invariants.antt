-- Each number passed stands after a comma.
use Prim.Native.Nat.{◌+◌, ◌*◌, ◌≤◌}
use mathlib.Core.Path.{◌≡◌}
use lib.ListN.{length, take}
use Rattle.sheet.specs.Printing.{id_digits}
use Rattle.sheet.proofs.Writings.{Put}
use Rattle.sheet.proofs.writing.put_others.Given as goal

abbrev pub invariant-loop-i : goal.invariant-loop-i
invariant-loop-i l =
    (length l.out ≡ length l.initial.out) × (l.end + 1 ≤ (id_digits + 1) * l.i) × Put l.initial.out l.start (take l.k l.ids) l.i l.out l.end
