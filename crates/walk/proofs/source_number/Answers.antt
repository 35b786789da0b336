-- A parity that is not at hand stands for k; of one at hand the lowest next bit tells, and its place where it is nobody's. Assumes nothing.
use mathlib.Core.Path.{sym, ◌∙◌}
use Rattle.std.proofs.lemmas.Option.{MatchOption-at_none, MatchOption-at_some}
use Rattle.bits.specs.Sums.{at}
use Rattle.table.specs.Desks.{desk_of}
use Rattle.walk.proofs.Scan.{source_absent}
use Rattle.walk.proofs.LowLaws.{Numbered, kept_number}
use Rattle.walk.proofs.source_number.Goals as goal
use Rattle.walk.proofs.source_number.Goals.{After-lowest-low}

-- what the lowest next bit tells
numbered : (c : After-lowest-low) → Numbered (desk_of c.args.desk.now) (at c.args.g.now) c.args.a c.lowest-low.result.place c.lowest-low.result.source
numbered c =
    let x = c.args in
    let low = c.lowest-low.result in
    kept_number (desk_of x.desk.now) (at x.g.now) x.a low.place low.source (sym c.marked.ensures ∙ c.if-not-marked.false) c.lowest-low.ensures

pub returns-then-not-marked : goal.returns-then-not-marked
returns-then-not-marked c = source_absent (desk_of c.args.desk.now) (at c.args.g.now) c.args.a (sym c.marked.ensures ∙ c.if-not-marked.true)

pub returns-in-Some : goal.returns-in-Some
returns-in-Some c = MatchOption-at_some _ _ _ c.in-Some.is (numbered (goal.at.returns-in-Some c).After-lowest-low)

pub returns-then-low : goal.returns-then-low
returns-then-low c = (MatchOption-at_none _ _ c.in_default.is (numbered (goal.at.returns-then-low c).After-lowest-low)).0 c.if-low.true

pub returns : goal.returns
returns c = (MatchOption-at_none _ _ c.in_default.is (numbered (goal.at.returns c).After-lowest-low)).1 c.if-low.false
