-- The first choice counts up from 1, since no number can be lower.
use mathlib.Core.Path.{sym, subst}
use mathlib.Core.Logic.{inl}
use borrow.Author.Rules.{rules}
use Rattle.table.specs.Checks.{Checked, size_checks}
use Rattle.choices.specs.Promise.{Begins}
use Rattle.choices.proofs.Successors.{begins_run}
use Rattle.choices.proofs.first.Goals as goal
use Rattle.choices.proofs.first.Goals.{After-count_up-ids}

-- what is counted up is the first choice
begun : (c : After-count_up-ids) → Begins c.args.k c.args.m c.count_up-ids.result
begun c =
    let size : Checked (size_checks c.args.k c.args.m) 0 = search rules in
    subst (Begins c.args.k c.args.m) (sym c.count_up-ids.ensures) (begins_run c.args.k c.args.m size)

pub returns-clause-begins : goal.returns-clause-begins
returns-clause-begins c = inl (begun (goal.at.returns-clause-begins c).After-count_up-ids)

pub returns-clause-some : goal.returns-clause-some
returns-clause-some c = begun (goal.at.returns-clause-some c).After-count_up-ids
