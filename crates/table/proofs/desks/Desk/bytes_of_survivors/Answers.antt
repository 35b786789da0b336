-- The places of the packets present add up, from one to the next and past the last. Assumes nothing.
use Prim.Native.Nat.{◌+◌}
use mathlib.Core.Path.{◌≡◌, ap, ap₂, ◌∙◌}
use Rattle.table.specs.Desk.{mark, place_of}
use Rattle.table.specs.Desks.{desk_of}
use Rattle.table.proofs.PacketLaws.{place_none, place_on, place_next}
use native.Mathlib.Omega.{arith}
use Rattle.table.proofs.desks.Desk.bytes_of_survivors.Goals as goal

pub loop-i-init : goal.loop-i-init
loop-i-init c =
    let s = c.args in
    let N = c.next_present-i.ensures in
    (N.most, N.found, place_none _ _ ∙ place_next (desk_of s.self.now) s.self.now.marks 0 _ _ N, omega arith)

pub loop-i-smaller : goal.loop-i-smaller
loop-i-smaller c = let N = c.next_present-i-in-loop-i.ensures in omega (arith, N.from)

pub loop-i-preserved : goal.loop-i-preserved
loop-i-preserved c =
    let s = c.args in
    let D = desk_of s.self.now in
    let N = c.next_present-i-in-loop-i.ensures in (
      N.most,
      N.found,
      ap₂ ◌+◌ c.loop-i.invariant.2 c.bytes_of-total.ensures.0 ∙ place_on D (mark s.self.now.marks) c.loop-i.i (c.loop-i.invariant.1 (omega arith))
          ∙ place_next D s.self.now.marks (c.loop-i.i + 1) _ _ N,
      omega (arith, c.bytes_of-total.ensures.1, N.from),
    )

pub returns : goal.returns
returns c =
    let s = c.args in
    let e : c.loop-i.i ≡ s.self.now.k + s.self.now.m = omega (arith, c.loop-i.invariant.0) in
    c.loop-i.invariant.2 ∙ ap (place_of (desk_of s.self.now) (mark s.self.now.marks)) e
