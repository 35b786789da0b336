-- What the blocks that are left decide, the whole run decides; and each turn a block with M is behind. Assumes nothing.
use mathlib.Core.Path.{◌≡◌, sym, ap, subst, ◌∙◌}
use mathlib.Core.Bool.{true, false}
use Prim.Native.Nat.{◌+◌, ◌-◌}
use borrow.Author.Rules.{rules}
use lib.ListN.{length, take, drop}
use Rattle.std.specs.Prelude.{Ok, Err}
use Rattle.card.specs.Taken.{flag}
use Rattle.chain.specs.Run.{behind}
use Rattle.chain.specs.Reading.{RunTold}
use Rattle.chain.proofs.PartLaws.{to_the_end}
use Rattle.chain.proofs.ReadingLaws.{Checking, checking_refuses, checking_ends, checking_goes_on}
use Rattle.chain.proofs.reading.check_run.Goals as goal

pub returns-in_err-block : goal.returns-in_err-block
returns-in_err-block c =
    let e = c.in_err-block in
    let r : c.from_residual.result ≡ Err e.field-0.0 = search rules in
    subst (RunTold c.args.run.now) (sym r) (checking_refuses c.loop-block.invariant e.field-0.0 e.ensures.numbered)

pub returns-then-not-block : goal.returns-then-not-block
returns-then-not-block c =
    let v = c.loop-block in
    let t = c.in_ok-block.ensures in
    let m : c.in_ok-block.block.more ≡ false = search rules in
    subst (λ n. RunTold c.args.run.now (Ok (v.joined + n))) (sym t.tells.1) (checking_ends v.invariant t.numbered (sym t.tells.0 ∙ ap flag m))

pub loop-block-preserved : goal.loop-block-preserved
loop-block-preserved c =
    let run = c.args.run.now in
    let v = c.loop-block in
    let left = v.left.now in
    let n = c.in_ok-block.block.length in
    let t = c.in_ok-block.ensures in
    let m : c.in_ok-block.block.more ≡ true = search rules in
    let cut : take (length left - (n + 4)) (drop (n + 4) left) ≡ behind left = to_the_end left (n + 4) ∙ ap (λ n. drop (n + 4) left) t.tells.1 in
    subst (λ x. Checking run x (1 - v.turn) (v.joined + n)) (sym cut)
    (subst (λ n. Checking run (behind left) (1 - v.turn) (v.joined + n)) (sym t.tells.1) (checking_goes_on v.invariant t.numbered (sym t.tells.0 ∙ ap flag m)))
