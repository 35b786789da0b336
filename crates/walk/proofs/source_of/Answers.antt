-- A parity that is not at hand has no bare source; of one at hand the lowest next bit tells. Assumes nothing.
use mathlib.Core.Path.{refl, sym, ◌∙◌}
use native.Mathlib.Omega.{arith}
use Rattle.bits.specs.Sums.{at}
use Rattle.table.specs.Desks.{desk_of}
use Rattle.walk.proofs.Scan.{source_absent}
use Rattle.walk.proofs.LowLaws.{kept_found}
use Rattle.walk.proofs.source_of.Goals as goal

pub returns-then-not-marked : goal.returns-then-not-marked
returns-then-not-marked c = omega (arith, source_absent (desk_of c.args.desk.now) (at c.args.g.now) c.args.a (sym c.marked.ensures ∙ c.if-not-marked.true))

pub returns : goal.returns
returns c =
    let x = c.args in
    let r = c.lowest.result in
    kept_found (desk_of x.desk.now) (at x.g.now) x.a x.desk.now.k r.place r.source refl (sym c.marked.ensures ∙ c.if-not-marked.false) c.lowest.ensures.lows
