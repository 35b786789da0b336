-- Each word of row b is added to the next word of row a; into its first word nothing comes. Assumes nothing.
use Rattle.std.proofs.Common.{◌≡◌, ◌+◌, ◌-◌, ◌*◌, sym, refl, ap, ◌∙◌, arith}
use Rattle.bits.specs.Sums.{at}
use Rattle.bits.specs.Bits.{bit, up}
use Rattle.bits.proofs.UpLaws.{up_low, up_from}
use Rattle.rows.specs.Rows.{row_words, row_in}
use Rattle.rows.proofs.RowLaws.{row_lt, add_more, other_word, add_all}
use Rattle.rows.proofs.add_next.Goals as goal

pub loop-c-init : goal.loop-c-init
loop-c-init c =
    let s = c.args in
    let rows = s.rows.now in
    record { done = λ p l. sym (rw (up_low 64 (row_in rows s.b) p (omega arith)) (omega (arith, row_lt rows s.a p))); rest = λ d p g. refl }

pub loop-c-preserved : goal.loop-c-preserved
loop-c-preserved c =
    let rows = c.args.rows.now in
    let b = c.args.b in
    let i = c.loop-c.c in
    add_more c.args.a (up 64 (row_in rows b)) rows c.loop-c.rows i _ (omega arith) (omega arith) c.loop-c.invariant (λ t lt.
    let j : b * row_words + i - 1 ≡ b * row_words + (i - 1) = omega arith in
    ap (λ x. bit (at c.loop-c.rows x) t) j
    ∙ other_word c.args.a (up 64 (row_in rows b)) rows c.loop-c.rows i b (i - 1) t c.requires.a_nonzero (omega arith) lt c.loop-c.invariant
    ∙ ap (row_in rows b) (omega arith) ∙ sym (up_from 64 (row_in rows b) (i * 64 + t) (omega arith)))

pub returns : goal.returns
returns c =
    let s = c.args in
    add_all s.a _ s.rows.now c.loop-c.rows c.loop-c.c (omega arith) c.loop-c.invariant
