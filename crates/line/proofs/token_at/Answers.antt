-- The longest numeral at i is the only one that the stop can follow.
use native.Mathlib.Omega.{arith}
use Rattle.line.proofs.Readings.{no_number, no_token, stop_stands}
use Rattle.line.proofs.token_at.Goals as goal

pub returns-in_err-n : goal.returns-in_err-n
returns-in_err-n c = rw c.from_residual.ensures (no_number c.args.input.now c.args.i c.args.stop c.in_err-n.ensures)

pub returns-then-ne : goal.returns-then-ne
returns-then-ne c =
    let s = c.args in
    let n = c.in_ok-n in
    no_token s.input.now s.i s.stop n.n.value n.n.next (omega arith) n.ensures (λ rest e. let h = stop_stands s.input.now n.n.next s.stop rest e in grind arith)
