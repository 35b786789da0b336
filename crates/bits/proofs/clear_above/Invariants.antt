-- The byte of bit n is clear from that bit on, and each later byte that is passed is 0.
use mathlib.Core.Path.{◌≡◌}
use Prim.Native.Nat.{ℕ, ◌/◌, ◌%◌, ◌^◌, ◌<◌}
use lib.ListN.{get_or}
use Rattle.bits.proofs.clear_above.Given as goal

abbrev pub invariant-loop-i : goal.invariant-loop-i
invariant-loop-i l = (get_or l.s l.b 0 / 2 ^ (l.n % 8) ≡ 0) × ((k : ℕ) → l.b < k → k < l.i → get_or l.s k 0 ≡ 0)
