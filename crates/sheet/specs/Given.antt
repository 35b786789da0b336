-- What the calls that print a piece give.
use Rattle.std.specs.Prelude.{Option, Some, None, ℕ}

-- how many bytes were printed: 0 where nothing was
abbrev pub count_of : Option ℕ → ℕ
count_of (Some n) = n
count_of None = 0
