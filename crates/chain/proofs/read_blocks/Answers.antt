-- The run is checked to its end, then the room, and only then anything is written. Assumes nothing.
use mathlib.Core.Path.{◌≡◌, refl, sym, ap, subst, ◌∙◌}
use mathlib.Core.Logic.{inl, inr}
use native.Mathlib.Omega.{arith}
use borrow.Author.Rules.{rules}
use lib.ListN.{length}
use Rattle.std.specs.Prelude.{Err}
use Rattle.table.specs.Refusals.{told, given}
use Rattle.table.proofs.CheckLaws.{goes}
use Rattle.table.proofs.AnswerLaws.{answer_refused, answer_done}
use Rattle.table.proofs.RefusalLaws.{numbered}
use Rattle.chain.specs.Run.{rest_checks, joined_checks}
use Rattle.chain.specs.Promise.{BlocksRead}
use Rattle.chain.proofs.RunLaws.{numbered_run, run_once}
use Rattle.chain.proofs.RunAnswers.{run-refused_answer}
use Rattle.chain.proofs.read_blocks.Goals as goal

pub returns-in_err-length : goal.returns-in_err-length
returns-in_err-length c =
    let dest = c.args.dest.now in
    let e = c.in_err-length in
    let r : c.from_residual.result ≡ Err e.field-0.0 = search rules in
    subst (λ r. BlocksRead c.args.run.now dest (told r) (given r) dest) (sym r) (run-refused_answer e.ensures.numbered (numbered e.field-0.0) dest)

pub returns-then-dest-length : goal.returns-then-dest-length
returns-then-dest-length c =
    let run = c.args.run.now in
    let t = c.in_ok-length.ensures in
    let w = t.carries in
    let room = joined_checks run (length c.args.dest.now) in
    answer_refused _ 16 16 (goes (rest_checks 0 run) room 16 (numbered_run (length run) 0 run) t.numbered (inl ((w.0, w.1, omega (arith, c.if-dest-length.true, w.2)), refl))) (λ z. omega arith) refl
    (refl, refl)

pub join-requires : goal.join-requires
join-requires c = let w = c.in_ok-length.ensures.carries in (w.0, w.1, omega (arith, c.if-dest-length.false, w.2))

pub returns : goal.returns
returns c =
    let run = c.args.run.now in
    let t = c.in_ok-length.ensures in
    let w = t.carries in
    let j = c.join.ensures in
    let room = joined_checks run (length c.args.dest.now) in
    answer_done _ 0
    (goes (rest_checks 0 run) room 0 (numbered_run (length run) 0 run) t.numbered (inr (λ x. omega (arith, x.2, ap length (run_once x.1 w.1), w.2, c.if-dest-length.false), refl)))
    refl (j.0, j.1, w.2 ∙ ap length (run_once w.1 j.1), j.2)
