-- Laws of refusals: each has a number, and a refused call tells it. Assumes nothing.
use mathlib.Core.Path.{◌≡◌, refl, ap}
use mathlib.Core.List.{◌++◌}
use native.Mathlib.Omega.{arith}
use Rattle.std.specs.Prelude.{Result, Ok}
use Rattle.std.specs.Result.{result_unwrap_or}
use Rattle.table.specs.Checks.{Checks, Checked, Answered}
use Rattle.table.specs.Refusals.{number_of}
use Rattle.table.specs.declared.refusals.Refusal.{Refusal}
use Rattle.table.proofs.AnswerLaws.{answer_stops}

-- no refusal has the number 0
pub numbered : (r : Refusal) → number_of r ≡ 0 → ⊥
numbered Refusal.Size e = omega (arith, e)
numbered Refusal.Length e = omega (arith, e)
numbered Refusal.Table e = omega (arith, e)
numbered Refusal.Input e = omega (arith, e)
numbered Refusal.Output e = omega (arith, e)
numbered Refusal.Packet e = omega (arith, e)
numbered Refusal.Marks e = omega (arith, e)
numbered Refusal.Stall e = omega (arith, e)
numbered Refusal.Stray e = omega (arith, e)
numbered Refusal.Foreign e = omega (arith, e)
numbered Refusal.BlockShort e = omega (arith, e)
numbered Refusal.BlockReserved e = omega (arith, e)
numbered Refusal.BlockLength e = omega (arith, e)
numbered Refusal.BlockSum e = omega (arith, e)
numbered Refusal.BlockHeader e = omega (arith, e)
numbered Refusal.Room e = omega (arith, e)
numbered Refusal.Progress e = omega (arith, e)
numbered Refusal.Line e = omega (arith, e)
numbered Refusal.Family e = omega (arith, e)
numbered Refusal.BlockTurn e = omega (arith, e)
numbered Refusal.BlockEnd e = omega (arith, e)
numbered Refusal.StepsUnequal e = omega (arith, e)
numbered Refusal.StepNotBare e = omega (arith, e)
numbered Refusal.StepsEarly e = omega (arith, e)
numbered Refusal.Stripes e = omega (arith, e)
numbered Refusal.Cut e = omega (arith, e)

-- the first checks refuse
pub refused_stops : (cs ds : Checks) (r : Refusal) {R D : Type 0} → Checked cs (number_of r) → R → Answered (cs ++ ds) (number_of r) R D
refused_stops cs ds r c x = answer_stops cs ds (number_of r) (number_of r) c (numbered r) refl x

-- what was given is the same where the answers are
pub ok_inj : {A : Type 0} {x y : A} → ◌≡◌ {A = Result A Refusal} (Ok x) (Ok y) → x ≡ y
ok_inj {A} {x} {y} e = ap (λ (r : Result A Refusal). result_unwrap_or r x) e
