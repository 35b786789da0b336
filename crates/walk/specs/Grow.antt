-- What lets no walk stop short: differences that grow over the parities at hand and the missing sources, and parities enough.
use Rattle.std.specs.Prelude.{not, ℕ, ◌+◌, ◌≤◌, ◌<◌}
use Rattle.bits.specs.Sums.{count}
use Rattle.table.specs.Desk.{Desk}
use Rattle.walk.specs.Walk.{Gone, Held}

-- growing differences, asked only of parities at hand and missing sources
abbrev pub GrowsHere : Desk → Type 0
GrowsHere D =
    (a a' b b' : ℕ) → a < a' → Held D a → Held D a' → b < b' → Gone D b → Gone D b' → D.shift a b' + D.shift a' b < D.shift a' b' + D.shift a b

-- no fewer parities are at hand than sources are missing
abbrev pub Enough : Desk → Type 0
Enough D = count D.k (λ b. not (D.present b)) ≤ count D.m (λ a. D.present (D.k + a))
