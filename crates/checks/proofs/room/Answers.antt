-- There is no room past the sources and none in a source that is present; a missing one has room for its bits. Assumes nothing.
use mathlib.Core.Path.{sym, ◌∙◌}
use native.Mathlib.Omega.{arith}
use Rattle.table.proofs.TableLaws.{room_outside, room-present, room-missing}
use borrow.Author.Rules.{rules}
use Rattle.checks.proofs.room.Goals as goal

pub returns-then-desk-c : goal.returns-then-desk-c
returns-then-desk-c c = let s = c.args in room_outside s.desk.now.k s.desk.now.length s.desk.now.marks s.c (omega arith)

pub returns-then-marked : goal.returns-then-marked
returns-then-marked c = room-present c.args.desk.now.k c.args.desk.now.length c.args.desk.now.marks c.args.c (sym c.marked.ensures ∙ c.if-marked.true)

pub returns : goal.returns
returns c = c.source_bits.ensures ∙ room-missing c.args.desk.now.k c.args.desk.now.length c.args.desk.now.marks c.args.c (search rules) (sym c.marked.ensures ∙ c.if-marked.false)
