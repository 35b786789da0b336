-- A bit stands lower than the one kept, level with it, or higher. Assumes nothing.
use Rattle.walk.proofs.LowLaws.{apart_under, apart_level, apart_over}
use native.Mathlib.Omega.{arith}
use Rattle.walk.proofs.placed.Goals as goal

pub returns-then-place-x : goal.returns-then-place-x
returns-then-place-x c =
    let a = c.args in
    λ k lb s. apart_under k a.x.place a.x.source a.place a.b c.requires.place_bound s lb c.if-place-x.true

pub returns-then-place-x-2 : goal.returns-then-place-x-2
returns-then-place-x-2 c =
    let a = c.args in
    λ k lb s. apart_level k a.x.place a.x.source a.place a.b c.requires.place_bound s c.if-place-x-2.true

pub returns : goal.returns
returns c =
    let a = c.args in
    λ k lb s. apart_over k a.x.place a.x.source a.place a.b c.requires.place_bound s (omega (arith, c.if-place-x.false, c.if-place-x-2.false))
