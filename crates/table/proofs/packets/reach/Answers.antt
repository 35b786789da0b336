-- A row of the sheet holds the shifts of its parity, and no entry is above the limit. Assumes nothing.
use Prim.Native.Nat.{ℕ, ◌+◌, ◌*◌, ◌≤◌}
use mathlib.Core.Path.{◌≡◌, sym, subst, ◌∙◌}
use Rattle.bits.specs.Sums.{at}
use Rattle.table.specs.Limits.{max_k, max_shift}
use Rattle.table.specs.Desk.{most}
use Rattle.table.specs.Table.{laid_out}
use Rattle.table.proofs.PacketLaws.{most_same, most_below}
use Rattle.table.proofs.TableLaws.{laid_in}
use Rattle.table.proofs.packets.reach.Goals as goal

pub returns : goal.returns
returns c =
    let s = c.args in
    let cells : ℕ → ℕ = λ b. at s.shifts.now (s.a * max_k + b) in
    let row = laid_out s.k s.shifts.now s.a in
    let found : c.largest.result ≡ most s.k cells = c.largest.ensures.0 in
    let e : c.largest.result ≡ most s.k row = found ∙ most_same s.k cells row (λ b l. laid_in s.k s.shifts.now s.a b l) in
    (e, subst (λ x. x ≤ max_shift) (sym found) (most_below s.k cells max_shift (λ b l. c.requires.2 (s.a * max_k + b))))
