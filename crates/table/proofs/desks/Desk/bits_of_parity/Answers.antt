-- A parity has as many bits more than a source as its reach. Assumes nothing.
use Prim.Native.Nat.{◌+◌, ◌≤◌}
use mathlib.Core.Path.{◌≡◌, ap₂, ◌∙◌}
use Rattle.table.specs.Limits.{max_shift}
use Rattle.table.specs.Desk.{reach}
use Rattle.table.specs.Desks.{desk_of}
use Rattle.table.proofs.Bounds.{within_bounds, reach_low}
use Rattle.table.proofs.PacketLaws.{parity_packet_bits}
use native.Mathlib.Omega.{arith}
use borrow.Author.Rules.{rules}
use Rattle.table.proofs.desks.Desk.bits_of_parity.Goals as goal
use Rattle.table.proofs.desks.Desk.bits_of_parity.Goals.{After-from}

-- what was read is the parity's reach
read : (c : After-from) → let s = c.args in c.from.result ≡ reach (desk_of s.self.now) s.a
unfolding reach
read c = c.from.ensures ∙ c.args.self.now.measured c.args.a (search rules)

read_low : (c : After-from) → c.from.result ≤ max_shift
read_low c =
    let D = desk_of c.args.self.now in
    omega (arith, read c, reach_low D (within_bounds c.args.self.now) c.args.a)

pub overflow_add-result : goal.overflow_add-result
overflow_add-result c = omega (arith, read_low (goal.at.overflow_add-result c).After-from)

pub returns : goal.returns
returns c =
    let D = desk_of c.args.self.now in (
      ap₂ ◌+◌ c.source_bits.ensures (read (goal.at.returns c).After-from) ∙ parity_packet_bits D c.args.a,
      omega (arith, c.source_bits.ensures, c.args.self.now.within.l_high, read_low (goal.at.returns c).After-from),
    )
