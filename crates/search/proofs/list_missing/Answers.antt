-- After each turn the columns so far list the missing sources up to b. Assumes nothing.
use Rattle.search.proofs.ListLaws.{lists_more}
use Rattle.search.proofs.list_missing.Goals as goal

pub loop-b-preserved : goal.loop-b-preserved
loop-b-preserved c =
    let i = c.loop-b in
    let N = c.next_missing-b-in-loop-b.ensures in
    let below = c.loop-b-test.true in
    (N.most, lists_more c.args.k c.args.marks i.columns i.count i.b i.invariant.1 c.next_missing-b-in-loop-b.result c.requires below (i.invariant.2 below) N, N.found)
