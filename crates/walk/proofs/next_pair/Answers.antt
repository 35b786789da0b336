-- No parity passed has a bare source, so the first found is the lowest. Assumes nothing.
use Prim.Native.Nat.{ℕ}
use mathlib.Core.Path.{sym}
use mathlib.Core.Bool.{Bool}
use borrow.Author.Tests.{lt-ltb}
use lib.Dec.{ltb}
use Rattle.bits.specs.Sums.{at}
use Rattle.bits.proofs.SumLaws.{lowest_found, lowest_none}
use Rattle.table.specs.Desks.{desk_of}
use Rattle.walk.specs.Compute.{source_of, parity_of}
use native.Mathlib.Omega.{arith}
use Rattle.walk.proofs.next_pair.Goals as goal
use Rattle.walk.proofs.next_pair.Goals.{Start}

-- whether parity a has a bare source
abbrev has_b : Start → ℕ → Bool
has_b c a = let s = c.args in ltb (source_of (desk_of s.desk.now) (at s.g.now) a) s.desk.now.k

pub returns-in-Some : goal.returns-in-Some
unfolding parity_of
returns-in-Some c =
    let s = c.args in
    let here = lt-ltb (source_of (desk_of s.desk.now) (at s.g.now) c.loop-parity.parity) s.desk.now.k (omega (arith, c.in-Some.ensures.0, c.in-Some.ensures.1)) in
    let below = c.loop-parity-test.true in
    (below, sym (lowest_found s.desk.now.m (has_b (goal.at.returns-in-Some c).Start) c.loop-parity.parity below here c.loop-parity.invariant), c.in-Some.ensures.1)

pub returns : goal.returns
unfolding parity_of
returns c =
    lowest_none c.args.desk.now.m (has_b (goal.at.returns c).Start) (λ j q. c.loop-parity.invariant j (omega arith))
