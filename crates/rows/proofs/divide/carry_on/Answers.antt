-- Each word, with the wave that the word before sends through it, is the quotient's; its highest d bits go on. Assumes nothing.
use Rattle.std.proofs.Common.{◌≡◌, ◌+◌, ◌-◌, ◌*◌, ◌^◌, ◌<◌, refl, arith, length-set, pow_pos, shr_lt}
use lib.Bits.{bit_xor, xor_lt}
use Rattle.bits.specs.Sums.{at}
use Rattle.rows.specs.Rows.{row_words}
use Rattle.rows.specs.Words.{Twice}
use Rattle.rows.proofs.DivideLaws.{comb_carries, joined_none, joined_more, joined-all}
use Rattle.rows.proofs.divide.carry_on.Goals as goal

pub loop-c-init : goal.loop-c-init
loop-c-init c =
    let s = c.args in
    (refl, omega (arith, pow_pos s.d), λ before halves. joined_none s.a s.d before s.rows.now (omega arith))

pub loop-c-preserved : goal.loop-c-preserved
loop-c-preserved c =
    let l = c.loop-c in
    let s = c.args in
    let w = c.times.result in
    let i = s.a * row_words + l.c in
    let wave : Twice s.d l.carry w = rw c.times.ensures (comb_carries s.d s.comb l.carry (omega arith) (omega arith) c.requires.twice l.invariant.1) in
    let word : bit_xor (at l.rows i) w < 2 ^ 64 = xor_lt 64 (at l.rows i) w (c.slice_known-in-loop-c-1.given i).fits (omega (arith, c.times.ensures)) in (
      simp length-set l.invariant.0,
      shr_lt s.d (64 - s.d) (let full : s.d + (64 - s.d) ≡ 64 = omega arith in rw full word),
      λ before halves.
          joined_more s.a s.d before s.rows.now halves l.rows l.c l.carry w (omega arith) (omega arith) (omega (arith, l.invariant.0)) (omega arith) (l.invariant.2 before halves) wave word,
    )

pub returns : goal.returns
returns c before halves =
    let s = c.args in
    joined-all s.a s.d before s.rows.now halves c.loop-c.rows c.loop-c.c c.loop-c.carry (omega arith) (c.loop-c.invariant.2 before halves)
