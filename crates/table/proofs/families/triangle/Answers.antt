-- It is the definition; the product is small. Assumes nothing.
use mathlib.Core.Path.{refl}
use Prim.Native.Nat.{◌+◌, ◌*◌, ◌≤◌}
use native.Mathlib.Omega.{arith}
use native.Mathlib.Nat.{mul-le-mul}
use Rattle.table.specs.Limits.{cells}
use Rattle.table.specs.Family.{triangle}
use Rattle.table.proofs.families.triangle.Goals as goal
use Rattle.table.proofs.families.triangle.Goals.{Start}

small : (s : Start) → s.args.n * (s.args.n + 1) ≤ cells * cells
small s =
    let here : s.args.n ≤ cells = omega arith in
    let next : s.args.n + 1 ≤ cells = omega arith in
    mul-le-mul here next

pub overflow_mul-result : goal.overflow_mul-result
overflow_mul-result c = omega (arith, small (goal.at.overflow_mul-result c).Start)

pub returns : goal.returns
unfolding triangle
returns c = refl
