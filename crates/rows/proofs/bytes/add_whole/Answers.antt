-- Each word is added to the word of the row that stands as far up; behind them stand no bits. Assumes nothing.
use Rattle.std.proofs.Common.{◌≡◌, ◌+◌, ◌-◌, ◌*◌, arith}
use Rattle.bits.specs.Bits.{bit_at}
use Rattle.bits.proofs.UpLaws.{up_low}
use Rattle.rows.proofs.RowLaws.{add_more, add_all}
use Rattle.rows.proofs.ByteRowLaws.{added_below_same, add_from, add_end, bit_from, bit-part, up_past}
use Rattle.rows.proofs.bytes.add_whole.Goals as goal

pub loop-c-init : goal.loop-c-init
loop-c-init c =
    let s = c.args in
    add_from s.a _ s.rows.now (s.first + 0) (λ p l. up_low (s.first * 64) (bit_at s.src.now) p (omega arith))

pub loop-c-preserved : goal.loop-c-preserved
loop-c-preserved c =
    let s = c.args in
    let word = c.eight in
    let next : s.first + c.loop-c.c + 1 ≡ s.first + (c.loop-c.c + 1) = omega arith in
    added_below_same s.a _ s.rows.now _ next
    (add_more s.a _ s.rows.now c.loop-c.rows (s.first + c.loop-c.c) _ (omega arith) (omega arith) c.loop-c.invariant
    (bit_from s.src.now s.first (s.first + c.loop-c.c) (8 * c.loop-c.c) word.result (omega arith)
    (bit-part s.src.now (8 * c.loop-c.c) (8 * c.loop-c.c + 8 - 8 * c.loop-c.c) word.result (omega arith) word.ensures.1)))

pub returns-then-first-whole-lt-ROW_WORDS : goal.returns-then-first-whole-lt-ROW_WORDS
returns-then-first-whole-lt-ROW_WORDS c =
    let s = c.args in
    let tail = c.tail in
    let done : c.loop-c.c ≡ s.whole = omega arith in
    add_end s.a _ s.rows.now _ (s.first + s.whole + 1) (λ p lp. up_past (s.first * 64) s.src.now p (omega arith))
    (add_more s.a _ s.rows.now c.loop-c.rows (s.first + s.whole) _ (omega arith) (omega arith) (rw done at c.loop-c.invariant)
    (bit_from s.src.now s.first (s.first + s.whole) (8 * s.whole) tail.result (omega arith) tail.ensures.1))

pub returns-else-first-whole-lt-ROW_WORDS : goal.returns-else-first-whole-lt-ROW_WORDS
returns-else-first-whole-lt-ROW_WORDS c =
    let s = c.args in
    add_all s.a _ s.rows.now c.loop-c.rows (s.first + c.loop-c.c) (omega arith) c.loop-c.invariant
