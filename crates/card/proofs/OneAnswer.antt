-- Two answers of the call block at the same input are the same. Assumes nothing.
use mathlib.Core.Path.{◌≡◌}
use mathlib.Core.List.{List}
use Prim.Native.Nat.{ℕ}
use lib.ListN.{length}
use Rattle.table.proofs.AnswerLaws.{same, answers_agree}
use Rattle.card.specs.Block.{block_checks}
use Rattle.card.specs.Promise.{BlockTaken}

pub one_block : (block before : List ℕ) {number count sequence more number' count' sequence' more' : ℕ} {after after' : List ℕ}
    → BlockTaken block before number count sequence more after → BlockTaken block before number' count' sequence' more' after'
    → (number ≡ number') × (count ≡ count') × (sequence ≡ sequence') × (more ≡ more') × (after ≡ after')
one_block block before {number} {count} {sequence} {more} {number'} {count'} {sequence'} {more'} {after} {after'} x y =
    let r = answers_agree (block_checks block (length before)) number number' {P = (count ≡ count') × (sequence ≡ sequence') × (more ≡ more') × (after ≡ after')}
    (λ p q. (same p.0 q.0, same p.1 q.1, same p.2 q.2, same p.3 q.3)) (λ p q. (same p.0 q.0, same p.1 q.1, same p.2 q.2, same p.3 q.3)) x y in
    (r.0, r.1.0, r.1.1, r.1.2, r.1.3)
