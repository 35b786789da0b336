-- Word by word, then the bytes of the word that is begun: each stands behind those before it. Assumes nothing.
use Rattle.std.proofs.Common.{◌≡◌, ◌+◌, ◌*◌, ◌/◌, ◌%◌, sym, ap, ◌∙◌, subst, arith}
use Rattle.bits.specs.Sums.{at}
use Rattle.bits.specs.Bits.{bit}
use Rattle.rows.specs.Rows.{row_words, row_in, Stored}
use Rattle.rows.proofs.RowLaws.{row_at}
use Rattle.rows.proofs.StoreLaws.{stored_more}
use Rattle.rows.proofs.bytes.store.Goals as goal

pub loop-c-preserved : goal.loop-c-preserved
loop-c-preserved c =
    let s = c.args in
    let i = c.loop-c.c in
    let eight : 8 * i + 8 ≡ 8 * (i + 1) = omega arith in
    let rows = s.rows.now in
    subst (λ m. Stored s.from m (row_in rows s.a) s.dst.now c.put_word.new.dst) eight
    (stored_more s.from (8 * i) 8 (row_in rows s.a) (bit (at rows (s.a * row_words + i))) s.dst.now c.loop-c.dst c.put_word.new.dst c.loop-c.invariant c.put_word.ensures
    (λ p lp. sym (row_at rows s.a i p (omega arith) (omega arith)) ∙ ap (row_in rows s.a) (omega arith)))

pub returns : goal.returns
returns c =
    let s = c.args in
    let i = s.n / 8 in
    let whole : c.loop-c.c ≡ i = omega arith in
    let all : 8 * i + s.n % 8 ≡ s.n = omega arith in
    let rows = s.rows.now in
    subst (λ m. Stored s.from m (row_in rows s.a) s.dst.now c.put_tail.new.dst) all
    (stored_more s.from (8 * i) (s.n % 8) (row_in rows s.a) (bit (at rows (s.a * row_words + i))) s.dst.now c.loop-c.dst c.put_tail.new.dst (rw whole at c.loop-c.invariant)
    c.put_tail.ensures (λ p lp. sym (row_at rows s.a i p (omega arith) (omega arith)) ∙ ap (row_in rows s.a) (omega arith)))
