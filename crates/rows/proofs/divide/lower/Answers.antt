-- From the first word up, so that the words that are read are still as they were. Assumes nothing.
use Rattle.std.proofs.Common.{◌≡◌, ℕ, ◌+◌, ◌-◌, ◌*◌, ◌<◌, ◌≤◌, sym, ap, ◌∙◌, arith}
use Rattle.bits.specs.Sums.{at}
use Rattle.bits.specs.Bits.{bit}
use Rattle.rows.specs.Rows.{row_words, row_in}
use Rattle.rows.proofs.RowLaws.{row_past, row_at, SetTo, set_more, set_all}
use Rattle.rows.proofs.DivideLaws.{word_lowered, word_lowered_last}
use Rattle.rows.proofs.divide.lower.Goals as goal

pub loop-c-preserved : goal.loop-c-preserved
loop-c-preserved c =
    let l = c.loop-c in
    let s = c.args in
    let g = row_in s.rows.now s.a in
    let i = s.a * row_words + l.c in
    let still : (j t : ℕ) → j < row_words → l.c ≤ j → t < 64 → bit (at l.rows (s.a * row_words + j)) t ≡ g (j * 64 + t) =
    λ j t lj cj lt. sym (row_at l.rows s.a j t lj lt) ∙ l.invariant.rest s.a (j * 64 + t) (λ _. omega arith) in
    let next : i + 1 ≡ s.a * row_words + (l.c + 1) = omega arith in
    set_more s.a _ s.rows.now l.rows l.c _ (omega arith) (omega arith) l.invariant
    (word_lowered s.e l.c g (at l.rows i) (omega arith) (omega arith) (c.slice_known-in-loop-c-1.given i).fits (λ t. still l.c t (omega arith) (omega arith)) (at l.rows (i + 1))
    (λ t lt. ap (λ x. bit (at l.rows x) t) next ∙ still (l.c + 1) t (omega arith) (omega arith) lt))

pub returns : goal.returns
returns c =
    let l = c.loop-c in
    let s = c.args in
    let g = row_in s.rows.now s.a in
    let last = row_words - 1 in
    let done : l.c ≡ last = omega arith in
    let i = s.a * row_words + last in
    let H : SetTo s.a (λ p. g (s.e + p)) last s.rows.now l.rows = rw done at l.invariant in
    set_all s.a _ s.rows.now _ (last + 1) (omega arith)
    (set_more s.a (λ p. g (s.e + p)) s.rows.now l.rows last _ (omega arith) (omega arith) H
    (word_lowered_last s.e last g (at l.rows i) (omega arith) (omega arith) (c.slice_known-2-1.given i).fits
    (λ t lt. sym (row_at l.rows s.a last t (omega arith) lt) ∙ H.rest s.a (last * 64 + t) (λ _. omega arith))
    (λ p lp. row_past s.rows.now s.a p (omega arith))))
