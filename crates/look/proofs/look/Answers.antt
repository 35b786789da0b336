-- Refused, the empty part is what a look gives. Assumes nothing.
use Rattle.look.proofs.LookLaws.{refused_looked}
use Rattle.look.proofs.look.Goals as goal

pub returns-in-Err : goal.returns-in-Err
returns-in-Err c = refused_looked c.in-Err.ensures c.part.ensures
