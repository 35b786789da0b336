-- Each number passed is above the one before it, and none is above n; the first that is not decides.
use mathlib.Core.Path.{◌≡◌, refl}
use native.Mathlib.Omega.{arith}
use native.Mathlib.Numerals.{add-one}
use lib.ListN.{length}
use borrow.Author.Count.{below_none, below_more}
use borrow.Author.Rules.{rules}
use Rattle.bits.proofs.BitLaws.{tells_so, tells_not}
use Rattle.table.specs.Limits.{max_k}
use Rattle.choices.proofs.Holding.{rising_take, take_rising}
use Rattle.choices.proofs.rises.Goals as goal

pub loop-i-init : goal.loop-i-init
loop-i-init c = (refl, below_none _)

pub returns-then-x-last : goal.returns-then-x-last
returns-then-x-last c =
    let s = c.args in
    let i = c.loop-i.i in
    let n : length s.ids ≡ max_k = search rules in
    tells_not (λ r. omega (arith, take_rising s.n s.k s.ids (omega arith) r i (omega arith)))

pub loop-i-preserved : goal.loop-i-preserved
loop-i-preserved c =
    let i = c.loop-i.i in
    (rw (add-one i), below_more _ i c.loop-i.invariant.1 (omega arith, omega arith))

pub returns : goal.returns
returns c =
    let s = c.args in
    let n : length s.ids ≡ max_k = search rules in
    tells_so (rising_take s.n s.k s.ids (omega arith) (λ j l. c.loop-i.invariant.1 j (omega arith)))
