-- The families of shift tables, of k sources and m parities. Parity a and source b are counted from 1.
-- 1 is the house family, (9) of Sung and Gong 2013. 2 is the Hankel family and 3 the Vandermonde family, 4.2 and 4.1 of Gong and Sung 2017, whose equations are meant from here on.
use Rattle.std.specs.Prelude.{cond, ℕ, ◌+◌, ◌-◌, ◌*◌, ◌/◌, leb, eqb}

abbrev pub house_shift : ℕ → ℕ → ℕ
house_shift a b = a * (b - 1)

-- half of n·(n + 1)
unfoldable pub triangle : ℕ → ℕ
triangle n = n * (n + 1) / 2

-- half of t·(t + 1) for t = u − c, which may be below 0: there it is half of (−t − 1)·(−t).
-- It is h(i) of (11) and (12), where u is i + 2 and c is N + 1: 0 at c, and u + 1 − c more at u + 1 than at u (`bowl-nought`, `bowl-step`).
unfoldable pub bowl : ℕ → ℕ → ℕ
bowl c u = cond (leb c u) (triangle (u - c)) (triangle (c - u - 1))

-- the Hankel family for m at least k: N is m; H has h(i + j − 2) at (i, j), (10), and the table is k columns of H, from (m − k)/2 + 1 on, the half rounded down
abbrev pub tall_shift : ℕ → ℕ → ℕ → ℕ → ℕ
tall_shift k m a b = bowl (m + 1) ((m - k) / 2 + a + b)

-- for m below k, the table of k and m exchanged, turned over its diagonal
unfoldable pub hankel_shift : ℕ → ℕ → ℕ → ℕ → ℕ
hankel_shift k m a b = cond (leb k m) (tall_shift k m a b) (tall_shift m k b a)

-- the Vandermonde family: (8)
abbrev pub vandermonde_shift : ℕ → ℕ → ℕ
vandermonde_shift a b = (a - 1) * (b - 1)

-- the entry of a family; 0 where there is no such family
unfoldable pub family_shift : ℕ → ℕ → ℕ → ℕ → ℕ → ℕ
family_shift family k m a b =
    cond (eqb family 1) (house_shift a b) (cond (eqb family 2) (hankel_shift k m a b) (cond (eqb family 3) (vandermonde_shift a b) 0))
