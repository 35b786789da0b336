-- The tests and the walk as they are computed: for the code's inner contracts and for examples.
use Rattle.std.specs.Prelude.{Bool, true, false, ◌||◌, List, [], ◌∷◌, ℕ, zero, suc, ◌+◌, eqb, ltb, leb, set}
use Rattle.bits.specs.Sums.{pick, at, all_b, lowest}
use Rattle.table.specs.Desk.{Desk}
use Rattle.walk.specs.Walk.{Order}

-- the lower of x, a place and its source, and of source b at a place;
-- the source is k where there is none yet, and above k where two share the place
unfoldable pub placed_of : ℕ → ℕ × ℕ → ℕ → ℕ → ℕ × ℕ
placed_of k x place b =
    pick (eqb x.1 k || ltb place x.0) (place, b)
    (pick (eqb place x.0) (place, k + 1) x)

module _ (D : Desk) where
  open D use {k, m, bits, shift, present}

  -- the lowest next bit of parity a so far, with source b looked at too
  unfoldable pub lower_of : (ℕ → ℕ) → ℕ → ℕ → ℕ × ℕ → ℕ × ℕ
  lower_of g a b x = pick (present b || leb bits (g b)) x (placed_of k x (shift a b + g b) b)

  -- the lowest next bit of parity a among the first n sources
  unfoldable pub scan : (ℕ → ℕ) → ℕ → ℕ → ℕ × ℕ
  scan g a zero = (0, k)
  scan g a (suc n) = lower_of g a n (scan g a n)

  -- the source that is bare in parity a, or k or more
  unfoldable pub source_of : (ℕ → ℕ) → ℕ → ℕ
  source_of g a = pick (present (k + a)) (scan g a k).1 k

  -- the lowest parity with a bare source, or m
  unfoldable pub parity_of : (ℕ → ℕ) → ℕ
  parity_of g = lowest m (λ a. ltb (source_of g a) k)

  -- whether source b is present or at its end
  unfoldable pub full_b : (ℕ → ℕ) → ℕ → Bool
  full_b g b = present b || leb bits (g b)

  -- whether every missing source is at its end
  unfoldable pub whole_b : (ℕ → ℕ) → Bool
  whole_b g = all_b k (full_b g)

  -- the walk of at most so many steps, and where it ends
  unfoldable pub walk_from : ℕ → List ℕ → Order × List ℕ
  walk_from zero g = ([], g)
  walk_from (suc f) g = elim (ltb (parity_of (at g)) m) [
    | true ↦
        let a = parity_of (at g) in
        let b = source_of (at g) a in
        let r = walk_from f (set g b (at g b + 1)) in
        ((a, b) ∷ r.0, r.1)
    | false ↦ ([], g)
  ]
