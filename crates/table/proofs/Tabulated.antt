-- A constant table that is the list of a rule's values, by computing, has the rule at each place. Assumes nothing.
use mathlib.Core.Path.{◌≡◌, sym, ap, ◌∙◌}
use mathlib.Core.List.{List, [], ◌∷◌}
use Prim.Native.Nat.{ℕ, zero, suc, ◌+◌, ◌<◌}
use native.Mathlib.Nat.{add-zero, zero-add, add-suc, suc-add, le_of_suc-le-suc, not-suc-le-zero}
use lib.ListN.{get_or}

-- f at n numbers from i
abbrev pub tabulated : (ℕ → ℕ) → ℕ → ℕ → List ℕ
tabulated f i zero = []
tabulated f i (suc n) = f i ∷ tabulated f (suc i) n

from : (f : ℕ → ℕ) (n i j : ℕ) → j < n → get_or (tabulated f i n) j 0 ≡ f (i + j)
from f zero i j h = absurd (not-suc-le-zero h)
from f (suc n) i zero h = ap f (sym (add-zero i))
from f (suc n) i (suc j) h = from f n (suc i) j (le_of_suc-le-suc h) ∙ ap f (suc-add i j ∙ sym (add-suc i j))

pub tabulated-at : (f : ℕ → ℕ) (n j : ℕ) → j < n → get_or (tabulated f 0 n) j 0 ≡ f j
tabulated-at f n j h = from f n 0 j h ∙ ap f (zero-add j)
