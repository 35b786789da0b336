-- What was joined and what is left to join are the run's bytes, in order; the block put last is the one without M. Assumes nothing.
use mathlib.Core.Path.{◌≡◌, sym, ap, subst, ◌∙◌}
use mathlib.Core.List.{List}
use Prim.Native.Nat.{ℕ, ◌+◌, ◌-◌}
use native.Mathlib.Omega.{arith}
use lib.ListN.{length, take, drop}
use Rattle.card.specs.Taken.{flag}
use Rattle.chain.specs.Run.{behind}
use Rattle.chain.proofs.PartLaws.{to_the_end}
use Rattle.chain.proofs.ReadingLaws.{Joining, joining_fits, joining_ends, joining_goes_on}
use Rattle.chain.proofs.reading.join.Goals as goal

pub put_information-length-requires : goal.put_information-length-requires
put_information-length-requires c = joining_fits c.loop-left.invariant

pub more_of-requires : goal.more_of-requires
more_of-requires c = omega (arith, (joining_fits c.loop-left.invariant).0)

pub returns-then-not-more_of : goal.returns-then-not-more_of
returns-then-not-more_of c = joining_ends c.loop-left.invariant c.put_information-length.ensures.1 (sym c.more_of.ensures ∙ ap flag c.if-not-more_of.true)

pub slice_bounds-left-count : goal.slice_bounds-left-count
slice_bounds-left-count c = omega (arith, c.put_information-length.ensures.0, (joining_fits c.loop-left.invariant).0)

pub slice_bounds-left-start : goal.slice_bounds-left-start
slice_bounds-left-start c = omega (arith, c.put_information-length.ensures.0, (joining_fits c.loop-left.invariant).0)

pub loop-left-preserved : goal.loop-left-preserved
loop-left-preserved c =
    let run = c.args.run.now in
    let before = c.args.dest.now in
    let v = c.loop-left in
    let left = v.left.now in
    let put = c.put_information-length in
    let n = put.result in
    let told = put.ensures in
    let cut : take (length left - (n + 4)) (drop (n + 4) left) ≡ behind left = to_the_end left (n + 4) ∙ ap (λ (n : ℕ). drop (n + 4) left) told.0 in
    let more = joining_goes_on v.invariant told.1 (λ m. omega (arith, c.more_of.ensures, m, ap flag c.if-not-more_of.false)) in
    subst (λ (x : List ℕ). Joining run before x (v.end + n) put.new.dest) (sym cut) (subst (λ (n : ℕ). Joining run before (behind left) (v.end + n) put.new.dest) (sym told.0) more)
