-- Two answers of the reader, and of the writer, at the same input are the same. Assumes nothing.
use mathlib.Core.Path.{◌≡◌, sym, ap, ◌∙◌}
use mathlib.Core.List.{List, ◌++◌}
use Prim.Native.Nat.{ℕ}
use lib.ListN.{length, drop}
use Rattle.table.proofs.AnswerLaws.{same, answers_agree}
use Rattle.chain.specs.Run.{read_checks}
use Rattle.chain.specs.Cut.{write_checks}
use Rattle.chain.specs.Promise.{BlocksRead, BlocksWritten}
use Rattle.chain.proofs.RunLaws.{run_once}

pub one_read_blocks : (run before : List ℕ) {number count number' count' : ℕ} {after after' : List ℕ}
    → BlocksRead run before number count after → BlocksRead run before number' count' after' → (number ≡ number') × (count ≡ count') × (after ≡ after')
one_read_blocks run before {number} {count} {number'} {count'} {after} {after'} x y =
    let r = answers_agree (read_checks run (length before)) number number' {P = (count ≡ count') × (after ≡ after')}
    (λ p q. (same p.0 q.0, same p.1 q.1))
    (λ p q. let e = run_once p.1 q.1 in (p.2 ∙ ap length e ∙ sym q.2, p.3 ∙ ap (λ x. x ++ drop (length x) before) e ∙ sym q.3)) x y in
    (r.0, r.1.0, r.1.1)

pub one_written_blocks : (packet : List ℕ) (size : ℕ) (before : List ℕ) {number count number' count' : ℕ} {after after' : List ℕ}
    → BlocksWritten packet size before number count after → BlocksWritten packet size before number' count' after' → (number ≡ number') × (count ≡ count') × (after ≡ after')
one_written_blocks packet size before {number} {count} {number'} {count'} {after} {after'} x y =
    let r = answers_agree (write_checks packet size (length before)) number number' {P = (count ≡ count') × (after ≡ after')}
    (λ p q. (same p.0 q.0, same p.1 q.1)) (λ p q. (same p.0 q.0, same p.1 q.1)) x y in
    (r.0, r.1.0, r.1.1)
