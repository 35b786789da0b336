-- Each word of row b is added to the same word of row a, shifted up, with what crossed from the word before. Assumes nothing.
use Rattle.std.proofs.Common.{◌≡◌, ℕ, ◌+◌, ◌-◌, ◌*◌, ◌/◌, ◌<◌, refl, ap, ◌∙◌, arith, length-set}
use Rattle.bits.specs.Sums.{at}
use Rattle.bits.specs.Bits.{bit, up}
use Rattle.bits.proofs.BitLaws.{bit_shr}
use Rattle.rows.specs.Rows.{row_words, row_in}
use Rattle.rows.proofs.RowLaws.{row_lt, set_none, add_more, other_word, add_all}
use Rattle.rows.proofs.ShiftLaws.{carries_none, word_raised, carries_more}
use Rattle.rows.proofs.add_raised.Goals as goal

pub loop-c-init : goal.loop-c-init
loop-c-init c =
    let s = c.args in
    (refl, set_none s.a _ s.rows.now, carries_none s.e (row_in s.rows.now s.b) (row_lt s.rows.now s.b) (omega arith))

pub loop-c-preserved : goal.loop-c-preserved
loop-c-preserved c =
    let rows = c.args.rows.now in
    let a = c.args.a in
    let b = c.args.b in
    let e = c.args.e in
    let i = c.loop-c.c in
    let x = at c.loop-c.rows (b * row_words + i) in
    let is : (t : ℕ) → t < 64 → bit x t ≡ row_in rows b (i * 64 + t) = λ t lt. other_word a (up e (row_in rows b)) rows c.loop-c.rows i b i t c.requires.a_nonzero (omega arith) lt
    c.loop-c.invariant.1 in
    let small = row_lt rows b in (
      simp length-set c.loop-c.invariant.0,
      add_more a (up e (row_in rows b)) rows c.loop-c.rows i _ (omega (arith, c.loop-c.invariant.0)) (omega arith) c.loop-c.invariant.1
          (word_raised e (row_in rows b) small (omega arith) i x c.loop-c.carry is (omega arith) c.loop-c.invariant.2),
      carries_more e (row_in rows b) small (omega arith) i x c.loop-c.carry is (c.slice_known-1.given (b * row_words + i)).fits _ (64 - e)
          (λ t. bit_shr (x / 2) (63 - e) t ∙ bit_shr x 1 (63 - e + t) ∙ ap (bit x) (omega arith)) (omega arith),
    )

pub returns : goal.returns
returns c =
    let s = c.args in
    add_all s.a _ s.rows.now c.loop-c.rows c.loop-c.c (omega arith) c.loop-c.invariant.1
