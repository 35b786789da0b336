-- The last number that can grow does, and those after it count up from it: nothing less comes after, since the rest was full.
use mathlib.Core.Path.{refl, sym, subst}
use mathlib.Core.Logic.{inl, inr}
use Prim.Native.Nat.{ℕ, ◌+◌}
use native.Mathlib.Omega.{arith}
use native.Mathlib.Numerals.{add-one}
use lib.ListN.{take, drop}
use Rattle.choices.specs.Choices.{Full}
use Rattle.choices.specs.Promise.{Follows}
use Rattle.choices.proofs.Successors.{nothing_follows, grown_follows}
use Rattle.choices.proofs.next.Goals as goal
use Rattle.choices.proofs.next.Goals.{After-count_up-ids}

-- what is counted up is the next choice
grown : (c : After-count_up-ids) → Follows c.args.k c.args.m c.args.c.ids c.count_up-ids.result
grown c =
    let s = c.args in
    let i = c.in_ok-i.i in
    let e = c.in_ok-i.ensures in
    let h = c.is_choice.ensures.so c.if-not-is_choice.false in
    let full = subst (λ (n : ℕ). Full (s.k + s.m) (drop n (take s.k s.c.ids))) (add-one i) e.1 in
    subst (Follows s.k s.m s.c.ids) (sym c.count_up-ids.ensures) (grown_follows s.k s.m s.c.ids h.1 i (omega arith) full (omega arith))

pub returns-then-not-is_choice-clause-follows : goal.returns-then-not-is_choice-clause-follows
returns-then-not-is_choice-clause-follows c = inr (λ other f. c.is_choice.ensures.not_so c.if-not-is_choice.true (f.ids, f.was), refl)

pub returns-in_err-i-clause-follows : goal.returns-in_err-i-clause-follows
returns-in_err-i-clause-follows c =
    let s = c.args in
    let h = c.is_choice.ensures.so c.if-not-is_choice.false in
    rw c.from_residual.ensures (inr (nothing_follows s.k s.m s.c.ids h.1 c.in_err-i.ensures, refl))

pub returns-clause-follows : goal.returns-clause-follows
returns-clause-follows c = inl (grown (goal.at.returns-clause-follows c).After-count_up-ids)

pub returns-clause-some : goal.returns-clause-some
returns-clause-some c = grown (goal.at.returns-clause-some c).After-count_up-ids
