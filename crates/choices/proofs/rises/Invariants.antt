-- Each number passed is above the one before it, and none is above n; the first that is not decides.
use Prim.Native.Nat.{ℕ, ◌≤◌, ◌<◌}
use mathlib.Core.Path.{◌≡◌}
use mathlib.Core.List.{◌∷◌}
use Rattle.bits.specs.Sums.{at}
use Rattle.choices.proofs.rises.Given as goal

abbrev pub invariant-loop-i : goal.invariant-loop-i
invariant-loop-i l = (l.last ≡ at (0 ∷ l.ids) l.i) × ((j : ℕ) → j < l.i → (at (0 ∷ l.ids) j < at l.ids j) × (at l.ids j ≤ l.n))
