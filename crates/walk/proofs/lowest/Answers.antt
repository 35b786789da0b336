-- x keeps the lowest next bit among the sources passed. Assumes nothing.
use mathlib.Core.Path.{◌≡◌, refl, subst}
use native.Mathlib.Numerals.{add-one}
use native.Mathlib.Omega.{arith}
use Prim.Native.Nat.{ℕ}
use Rattle.bits.specs.Sums.{at}
use Rattle.table.specs.Desks.{desk_of}
use Rattle.walk.specs.Compute.{scan}
use Rattle.walk.specs.Lows.{nobody, LowsApart}
use Rattle.walk.proofs.lowest.Goals as goal

pub loop-b-init : goal.loop-b-init
unfolding scan
loop-b-init c = record { lows = nobody refl refl refl; below = λ _ e. omega (arith, e) }

pub loop-b-preserved : goal.loop-b-preserved
unfolding scan
loop-b-preserved c =
    let x = c.args in
    rw (add-one c.loop-b.b) (c.lower-x.ensures (scan (desk_of x.desk.now) (at x.g.now) x.a c.loop-b.b) c.loop-b.invariant)

pub returns : goal.returns
returns c =
    let x = c.args in
    let l = c.loop-b in
    let e : l.b ≡ x.desk.now.k = omega arith in
    subst (λ (n : ℕ). LowsApart x.desk.now.k l.x.place l.x.source (scan (desk_of x.desk.now) (at x.g.now) x.a n)) e l.invariant
