-- A source is full if it is present, or else if its progress is at its end. Assumes nothing.
use mathlib.Core.Path.{sym, ◌∙◌}
use mathlib.Core.List.{[]}
use Rattle.bits.specs.Sums.{at}
use Rattle.table.specs.Desk.{desk}
use Rattle.walk.specs.Compute.{full_b}
use Rattle.walk.proofs.Computed.{full_present}
use Rattle.walk.proofs.is_full.Goals as goal

pub returns-then-marked : goal.returns-then-marked
returns-then-marked c = λ k. c.if-marked.true ∙ sym (full_present (desk k 0 c.args.length [] c.args.marks) (at c.args.g.now) c.args.b (sym c.marked.ensures ∙ c.if-marked.true))

pub returns-else-marked : goal.returns-else-marked
unfolding full_b
returns-else-marked c = λ k. rw (c.source_bits.ensures, sym c.marked.ensures ∙ c.if-marked.false)
