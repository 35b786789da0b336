-- 20 and 21 are asked where 11 to 15 refuse nothing. Assumes nothing.
use mathlib.Core.Path.{◌≡◌, refl, sym, subst}
use borrow.Author.Rules.{rules}
use Rattle.std.specs.Prelude.{Err}
use Rattle.table.proofs.CheckLaws.{numbered_by, goes}
use Rattle.chain.specs.Run.{first_checks, link_checks}
use Rattle.chain.specs.Reading.{BlockTold}
use Rattle.chain.proofs.reading.check_block.Goals as goal

pub returns-in_err-check_link : goal.returns-in_err-check_link
returns-in_err-check_link c =
    let left = c.args.left.now in
    let e = c.in_err-check_link in
    let r : c.from_residual-in_err-check_link.result ≡ Err e.field-0.0 = search rules in
    subst (BlockTold c.args.turn left) (sym r)
    (record { numbered = goes (first_checks left) (link_checks c.args.turn left) _ (numbered_by (first_checks left) refl) c.in_ok-check_first.ensures e.ensures; tells = tt })
