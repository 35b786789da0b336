-- Where there is a line, its numbers decide 1 and 2.
use mathlib.Core.Path.{◌≡◌, refl}
use borrow.Author.Rules.{rules}
use Rattle.std.specs.Prelude.{Err}
use Rattle.table.specs.Refusals.{number_of}
use Rattle.table.proofs.RefusalLaws.{numbered}
use Rattle.table.proofs.AnswerLaws.{answer_refused, answer_done}
use Rattle.line.specs.Promise.{Line, sheet_checks}
use Rattle.line.proofs.Lines.{length_decides}
use Rattle.line.proofs.read.Goals as goal

pub returns-in_err-check_length : goal.returns-in_err-check_length
returns-in_err-check_length c =
    let s = c.args.input.now in
    let r = c.in_err-check_length.field-0.0 in
    let line = c.in_ok-line.line in
    let x : Line s line.k line.m line.l = search rules in
    let told = length_decides s x (number_of r) c.in_ok-check_size.ensures c.in_err-check_length.ensures in
    let e : c.from_residual-in_err-check_length.result ≡ Err r = search rules in
    rw e (answer_refused (sheet_checks s) (number_of r) (number_of r) told (numbered r) refl (refl, refl, refl))

pub returns : goal.returns
returns c =
    let s = c.args.input.now in
    let line = c.in_ok-line.line in
    let x : Line s line.k line.m line.l = search rules in
    let told = length_decides s x 0 c.in_ok-check_size.ensures c.in_ok-check_length.ensures in
    answer_done (sheet_checks s) 0 told refl x
