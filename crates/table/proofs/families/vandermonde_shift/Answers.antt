-- It is the definition; the product is small. Assumes nothing.
use Prim.Native.Nat.{ℕ, ◌*◌, ◌≤◌}
use native.Mathlib.Omega.{arith}
use borrow.Author.Rules.{rules}
use mir.Val.{Fits}
use mir.Syntax.{w64}
use Rattle.table.specs.Limits.{max_k, max_m}
use Rattle.table.proofs.TableLaws.{small_product}
use Rattle.table.proofs.families.vandermonde_shift.Goals as goal

-- a row number times a column number fits
small-fits : (x y : ℕ) → x ≤ max_m → y ≤ max_k → Fits w64 (x * y)
small-fits x y p q = omega (arith, small_product x y p q)

pub overflow_mul-result : goal.overflow_mul-result
overflow_mul-result c = small-fits _ _ (search rules) (search rules)
