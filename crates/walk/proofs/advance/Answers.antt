-- It takes the lowest parity with a bare source, and that source. Assumes nothing.
use Rattle.bits.specs.Sums.{at}
use Rattle.table.specs.Desks.{desk_of}
use Rattle.walk.proofs.Computed.{next_none, next_one, found_bare}
use native.Mathlib.Omega.{arith}
use Rattle.walk.proofs.advance.Goals as goal

pub raised-progress-requires-clause-b_lt_max_k : goal.raised-progress-requires-clause-b_lt_max_k
raised-progress-requires-clause-b_lt_max_k c =
    let s = c.args in
    let p = c.in-Some.p in
    let r = c.in-Some.ensures in
    omega (arith, (found_bare (desk_of s.desk.now) (at s.g) p.parity p.source r.0 r.1 r.2).free, s.desk.now.within.k_high)

pub returns-in-Some : goal.returns-in-Some
returns-in-Some c =
    let p = c.in-Some.p in
    let r = c.in-Some.ensures in
    next_one (desk_of c.args.desk.now) c.args.g c.raised-progress.result p.parity p.source r.0 r.1 r.2 c.raised-progress.ensures

pub returns-in-None : goal.returns-in-None
returns-in-None c = rw c.in-None.is (next_none (desk_of c.args.desk.now) c.args.g (omega (arith, c.in-None.ensures)))
