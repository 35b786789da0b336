-- A source that is present or finished changes nothing, and any other is compared by its place. Assumes nothing.
use mathlib.Core.Path.{sym, ap, ◌∙◌, subst}
use Prim.Native.Nat.{ℕ, ◌+◌, ◌<◌}
use Rattle.bits.specs.Sums.{at}
use Rattle.table.specs.Desk.{source_bits}
use Rattle.table.specs.Desks.{desk_of}
use Rattle.walk.specs.Compute.{placed_of}
use Rattle.walk.specs.Lows.{LowsApart}
use Rattle.walk.proofs.Scan.{lower_present, lower_full, lower_free}
use native.Mathlib.Omega.{arith}
use Rattle.walk.proofs.lower.Goals as goal

pub returns-then-marked : goal.returns-then-marked
returns-then-marked c =
    let a = c.args in
    λ s. subst (LowsApart a.desk.now.k a.x.place a.x.source) (lower_present (desk_of a.desk.now) (at a.g.now) a.a a.b s (sym c.marked.ensures ∙ c.if-marked.true))

pub returns-then-source_bits-g : goal.returns-then-source_bits-g
returns-then-source_bits-g c =
    let a = c.args in
    λ s. subst (LowsApart a.desk.now.k a.x.place a.x.source) (lower_full (desk_of a.desk.now) (at a.g.now) a.a a.b s (omega (arith, c.source_bits.ensures, c.if-source_bits-g.true)))

pub returns : goal.returns
returns c =
    let a = c.args in
    let d = a.desk.now in
    let g = at a.g.now in
    let r = c.placed.result in
    let missing = sym c.marked.ensures ∙ c.if-marked.false in
    let unfinished : g a.b < source_bits d.length = omega (arith, c.source_bits.ensures, c.if-source_bits-g.false) in
    λ s L. subst (LowsApart d.k r.place r.source)
    (ap (λ (v : ℕ). placed_of d.k s (v + g a.b) a.b) c.shift_of.ensures.0 ∙ lower_free (desk_of d) g a.a a.b s missing unfinished)
    (c.placed.ensures d.k c.requires.b_lt_k s L)
