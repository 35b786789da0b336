-- From the middle on, and below it. Assumes nothing.
use mathlib.Core.Path.{◌∙◌}
use borrow.Author.Rules.{rules}
use Rattle.table.proofs.FamilyLaws.{bowl-up, bowl_down}
use Rattle.table.proofs.families.bowl.Goals as goal

pub returns-then-c-u : goal.returns-then-c-u
returns-then-c-u c = c.triangle.ensures ∙ bowl-up _ _ _ (search rules)

pub returns : goal.returns
returns c = c.triangle-2.ensures ∙ bowl_down _ _ _ (search rules)
