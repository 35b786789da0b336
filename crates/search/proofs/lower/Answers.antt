-- A finished source is passed over; else its next bit stands lower, at the same place, or higher. Assumes nothing.
use native.Mathlib.Omega.{arith}
use Rattle.bits.specs.Sums.{at}
use Rattle.table.specs.Desks.{desk_of}
use Rattle.search.proofs.SearchLaws.{leading_over, leading_under, leading_level}
use Rattle.search.proofs.lower.Goals as goal

pub returns-then-source_bits-here : goal.returns-then-source_bits-here
returns-then-source_bits-here c =
    let s = c.args in
    λ L. leading_over (desk_of s.desk.now) (at s.g.now) s.a s.b _ _ L (λ f. absurd (omega (arith, f.1, c.source_bits.ensures, c.if-source_bits-here.true)))

pub returns-then-place-x : goal.returns-then-place-x
returns-then-place-x c =
    let s = c.args in
    let e = c.shift_of.ensures.0 in
    λ L. rw e
    (leading_under (desk_of s.desk.now) (at s.g.now) s.a s.b _ _ L
    ((c.requires.b_lt_k, c.requires.b_value), omega (arith, c.source_bits.ensures, c.if-source_bits-here.false)) (omega (arith, e, c.if-place-x.true)))

pub returns-then-place-x-2 : goal.returns-then-place-x-2
returns-then-place-x-2 c =
    let s = c.args in
    λ L. rw c.if-place-x-2.true (leading_level (desk_of s.desk.now) (at s.g.now) s.a s.b _ _ L (omega (arith, c.shift_of.ensures.0, c.if-place-x-2.true)))

pub returns : goal.returns
returns c =
    let s = c.args in
    λ L. leading_over (desk_of s.desk.now) (at s.g.now) s.a s.b _ _ L (λ _. omega (arith, c.shift_of.ensures.0, c.if-place-x.false, c.if-place-x-2.false))
