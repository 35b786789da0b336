-- After each turn x is the largest of the bytes passed. Assumes nothing.
use Prim.Native.Nat.{ℕ, ◌+◌, ◌<◌}
use mathlib.Core.Path.{◌≡◌, ap, ◌∙◌}
use native.Mathlib.Omega.{arith}
use Rattle.bits.specs.Sums.{at}
use Rattle.table.specs.Desk.{most}
use Rattle.table.proofs.PacketLaws.{most_none, most_more}
use Rattle.table.proofs.packets.largest.Goals as goal
use Rattle.table.proofs.packets.largest.Goals.{then-x-y, else-x-y}

pub loop-b-init : goal.loop-b-init
loop-b-init c = (most_none _, omega arith)

pub loop-b-preserved : goal.loop-b-preserved
loop-b-preserved c =
    let row : ℕ → ℕ = λ b. at c.args.s.now (c.args.«from» + b) in
    let before : c.loop-b.x ≡ most c.loop-b.b row = c.loop-b.invariant.0 in
    let few : c.loop-b.x < 256 = c.loop-b.invariant.1 in
    let here : c.from-y.result ≡ row c.loop-b.b = c.from-y.ensures in
    let byte : c.from-y.result < 256 = omega (arith, here, (c.type_inv.s (c.args.«from» + c.loop-b.b)).fits) in
    let after : c.if-x-y.x ≡ most (c.loop-b.b + 1) row = elim c.if-x-y.branch [
      | then-x-y w ↦ grind (arith, w.x-is, w.if-x-y.true, here, before, most_more c.loop-b.b row)
      | else-x-y w ↦ grind (arith, w.x-is, w.if-x-y.false, here, before, most_more c.loop-b.b row)
    ] in
    (after, elim c.if-x-y.branch [ then-x-y w ↦ omega (arith, w.x-is, byte) | else-x-y w ↦ omega (arith, w.x-is, few) ])

pub returns : goal.returns
returns c =
    let row : ℕ → ℕ = λ b. at c.args.s.now (c.args.«from» + b) in
    let e : c.loop-b.b ≡ c.args.k = omega arith in
    let x : c.loop-b.x ≡ most c.loop-b.b row = c.loop-b.invariant.0 in
    (x ∙ ap (λ n. most n row) e, c.loop-b.invariant.1)
