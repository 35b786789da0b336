-- After each turn each word times 1 + z ^ d is what it was times 1 + z ^ e. Assumes nothing.
use Rattle.std.proofs.Common.{◌+◌, arith}
use Rattle.rows.specs.Words.{Twice}
use Rattle.rows.proofs.DivideLaws.{Between, between_more, between_all, each_then, each_to}
use Rattle.rows.proofs.divide.halve_words.Goals as goal

pub loop-shift-preserved : goal.loop-shift-preserved
loop-shift-preserved c =
    let l = c.loop-shift in
    let s = c.args in
    let e = l.shift in (
      omega arith,
      omega arith,
      each_then s.a (Between s.d e) (λ x r. Twice e r x) (Between s.d (e + e)) s.rows.now l.rows _
          (λ x r r'. between_more s.d e x r r') l.invariant.2 c.double_words.ensures,
    )

pub returns : goal.returns
returns c =
    let l = c.loop-shift in
    let s = c.args in
    each_to s.a (Between s.d l.shift) (Twice s.d) s.rows.now l.rows (λ x r. between_all s.d l.shift x r (omega arith)) l.invariant.2
