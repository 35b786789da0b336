-- The input's length is looked at first, then the output's. Assumes nothing.
use mathlib.Core.Path.{refl}
use mathlib.Core.Logic.{inl, inr}
use native.Mathlib.Omega.{arith}
use Rattle.checks.proofs.check_lengths.Goals as goal

pub returns-then-input-needed : goal.returns-then-input-needed
returns-then-input-needed c = inl (c.if-input-needed.true, refl)

pub returns-then-output-room : goal.returns-then-output-room
returns-then-output-room c = inr ((λ n. n c.if-input-needed.false), inl ((λ e. omega arith), refl))

pub returns : goal.returns
returns c = inr ((λ n. n c.if-input-needed.false), inr ((λ n. n c.if-output-room.false), refl))
