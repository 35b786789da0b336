-- Numbers as decimal text.
use Rattle.std.specs.Prelude.{List, [], ◌∷◌, ◌++◌, ℕ, zero, suc, ◌+◌, ◌/◌, ◌%◌, ltb}
use Rattle.bits.specs.Sums.{pick}

abbrev pub digit : ℕ → ℕ
digit d = 48 + d

-- the decimal text of n without a leading zero, in at most f + 1 digits
unfoldable pub written : ℕ → ℕ → List ℕ
written zero n = digit n ∷ []
written (suc f) n = pick (ltb n 10) (digit n ∷ []) (written f (n / 10) ++ digit (n % 10) ∷ [])

-- the decimal text of n
unfoldable pub numeral : ℕ → List ℕ
numeral n = written n n

-- as many digits as a number of the code has at most
abbrev pub max_digits : ℕ
max_digits = 20
