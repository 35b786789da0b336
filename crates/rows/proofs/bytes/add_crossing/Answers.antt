-- Each word is added with what crosses into it from the word before, and so are the bytes that are left; behind them only what crosses. Assumes nothing.
use Rattle.std.proofs.Common.{◌≡◌, ◌+◌, ◌-◌, ◌*◌, arith}
use Rattle.rows.proofs.ByteRowLaws.{bit-part, crossed_none, crossed_more, crossed_end, crossed_all}
use Rattle.rows.proofs.bytes.add_crossing.Goals as goal

pub loop-c-init : goal.loop-c-init
loop-c-init c = crossed_none c.args.a c.args.s c.args.src.now c.args.rows.now c.requires.has_row c.requires.le_s.1

pub loop-c-preserved : goal.loop-c-preserved
loop-c-preserved c =
    let word = c.eight-x in
    crossed_more c.args.a c.args.s c.args.src.now c.args.rows.now c.requires.has_row c.requires.le_s.1 c.loop-c.c word.result c.loop-c.last c.loop-c.rows
    (omega arith) word.ensures.0 (bit-part c.args.src.now (8 * c.loop-c.c) (8 * c.loop-c.c + 8 - 8 * c.loop-c.c) word.result (omega arith) word.ensures.1) c.loop-c.invariant

pub returns-then-whole-src : goal.returns-then-whole-src
returns-then-whole-src c =
    let done : c.loop-c.c ≡ c.args.whole = omega arith in
    crossed_end c.args.a c.args.s c.args.src.now c.args.rows.now c.requires.has_row c.requires.le_s.1 c.args.whole c.loop-c.last c.loop-c.rows (omega arith)
    (omega arith) (rw done at c.loop-c.invariant)

pub returns-then-whole-lt-ROW_WORDS : goal.returns-then-whole-lt-ROW_WORDS
returns-then-whole-lt-ROW_WORDS c =
    let tail = c.tail-x in
    let done : c.loop-c.c ≡ c.args.whole = omega arith in
    crossed_end c.args.a c.args.s c.args.src.now c.args.rows.now c.requires.has_row c.requires.le_s.1 (c.args.whole + 1) tail.result _ (omega arith) (omega arith)
    (crossed_more c.args.a c.args.s c.args.src.now c.args.rows.now c.requires.has_row c.requires.le_s.1 c.args.whole tail.result c.loop-c.last c.loop-c.rows
    (omega arith) tail.ensures.0 tail.ensures.1 (rw done at c.loop-c.invariant))

pub returns-else-whole-lt-ROW_WORDS : goal.returns-else-whole-lt-ROW_WORDS
returns-else-whole-lt-ROW_WORDS c =
    let tail = c.tail-x in
    let done : c.loop-c.c ≡ c.args.whole = omega arith in
    crossed_all c.args.a c.args.s c.args.src.now c.args.rows.now c.requires.has_row c.requires.le_s.1 (c.args.whole + 1) tail.result _ (omega arith)
    (crossed_more c.args.a c.args.s c.args.src.now c.args.rows.now c.requires.has_row c.requires.le_s.1 c.args.whole tail.result c.loop-c.last c.loop-c.rows
    (omega arith) tail.ensures.0 tail.ensures.1 (rw done at c.loop-c.invariant))
