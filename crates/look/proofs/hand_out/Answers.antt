-- The part that look at tells ends within its buffer. Assumes nothing.
use mathlib.Core.Path.{ap}
use native.Mathlib.Omega.{arith}
use Rattle.look.specs.Places.{number_of}
use Rattle.look.proofs.LookLaws.{look_ends, handed_rebuilt, handed_survivors}
use Rattle.look.proofs.hand_out.Goals as goal

pub part-requires : goal.part-requires
part-requires c =
    let s = c.args in
    let e = look_ends s.k s.m s.l s.table.now s.marks s.source s.survivors.now s.rebuilt.now c.in_ok-place.ensures in
    omega (arith, e.0, e.1 (λ z. omega (arith, ap number_of c.in-Survivors.is)))

pub part-requires-in-Rebuilt : goal.part-requires-in-Rebuilt
part-requires-in-Rebuilt c =
    let s = c.args in
    omega (arith, (look_ends s.k s.m s.l s.table.now s.marks s.source s.survivors.now s.rebuilt.now c.in_ok-place.ensures).0)

pub returns-in-Survivors : goal.returns-in-Survivors
returns-in-Survivors c = handed_survivors c.in_ok-place.ensures (λ e. omega (arith, ap number_of c.in-Survivors.is)) c.part.ensures

pub returns-in-Rebuilt : goal.returns-in-Rebuilt
returns-in-Rebuilt c = handed_rebuilt c.in_ok-place.ensures (ap number_of c.in-Rebuilt.is) c.part-in-Rebuilt.ensures
