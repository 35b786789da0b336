-- From the word on that bit n stands in; the words before it are as they were. Assumes nothing.
use Rattle.std.proofs.Common.{◌≡◌, ℕ, ◌+◌, ◌*◌, ◌<◌, cond, ltb, sym, ◌∙◌, ap₂, arith, length-set}
use Rattle.bits.specs.Sums.{at}
use Rattle.bits.specs.Bits.{bit}
use Rattle.rows.specs.Rows.{row_words, row_in}
use Rattle.rows.proofs.RowLaws.{row_at, set_more}
use Rattle.rows.proofs.clear.clear_from.Goals as goal

pub loop-c-preserved : goal.loop-c-preserved
loop-c-preserved c =
    let l = c.loop-c in
    let s = c.args in
    let g = row_in s.rows.now s.a in
    let word = at l.rows (s.a * row_words + l.c) in
    let same : (t : ℕ) → t < 64 → bit word t ≡ g (l.c * 64 + t) = λ t lt. sym (row_at l.rows s.a l.c t (omega arith) lt) ∙ l.invariant.2.rest s.a (l.c * 64 + t) (λ _. omega arith) in
    let from : (t : ℕ) → 64 * l.c + t ≡ l.c * 64 + t = λ t. omega arith in (
      omega arith,
      simp length-set l.invariant.1,
      set_more s.a _ s.rows.now l.rows l.c _ (omega (arith, l.invariant.1)) (omega arith) l.invariant.2
          (λ t lt. c.kept.ensures t lt ∙ ap₂ (λ i x. cond (ltb i s.n) x 0) (from t) (same t lt)),
    )
