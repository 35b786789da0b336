-- The copy goes over the front of the part from `from` on, and all else is kept. Assumes nothing.
use mathlib.Core.Path.{sym, subst}
use mathlib.Core.List.{List, ◌++◌}
use Prim.Native.Nat.{ℕ, ◌-◌}
use lib.ListN.{length, take, drop}
use Rattle.bits.specs.Bits.{bit_at}
use Rattle.rows.specs.Rows.{Stored}
use Rattle.lanes.proofs.PutLaws.{stored_over}
use Rattle.lanes.proofs.put_bytes.Goals as goal

pub returns : goal.returns
returns c =
    let a = c.args in
    let out = a.out.now in
    subst (λ (ys : List ℕ). Stored a.from (length a.src.now) (bit_at a.src.now) out (take a.from out ++ (ys ++ drop (length out - a.from) (drop a.from out))))
    (sym c.copy_front.ensures) (stored_over out a.src.now a.from c.requires)
