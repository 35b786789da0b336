-- Three tokens and the end of the input, each the only one that a line could have there.
use Rattle.line.proofs.Lines.{second_missing, third_missing, more_follows}
use Rattle.line.proofs.parsed.Goals as goal

pub returns-in_err-m : goal.returns-in_err-m
returns-in_err-m c = rw c.from_residual-in_err-m.ensures (second_missing c.args.input.now c.in_ok-k.ensures c.in_err-m.ensures)

pub returns-in_err-l : goal.returns-in_err-l
returns-in_err-l c = rw c.from_residual-in_err-l.ensures (third_missing c.args.input.now c.in_ok-k.ensures c.in_ok-m.ensures c.in_err-l.ensures)

pub returns-then-l-input : goal.returns-then-l-input
returns-then-l-input c = more_follows c.args.input.now c.in_ok-k.ensures c.in_ok-m.ensures c.in_ok-l.ensures c.if-l-input.true
