-- Laws of the families' rules: differences grow from neighbour to neighbour, and how large a shift is. Assumes nothing.
use mathlib.Core.Path.{◌≡◌, refl, sym, ap, ap₂, ◌∙◌}
use mathlib.Core.Bool.{Bool, true, false, cond}
use Prim.Native.Nat.{ℕ, zero, suc, ◌+◌, ◌-◌, ◌*◌, ◌/◌, ◌%◌, ◌≤◌, ◌<◌}
use native.Mathlib.Omega.{arith}
use native.Mathlib.Decide.{dec_le}
use lib.Dec.{leb}
use Rattle.bits.specs.Sums.{at}
use borrow.Author.Tests.{le-leb, lt-leb}
use Rattle.table.specs.Limits.{max_k, max_m, max_shift, max_family, cells}
use Rattle.table.specs.Desk.{most}
use Rattle.table.specs.Family.{house_shift, triangle, bowl, tall_shift, hankel_shift, vandermonde_shift, family_shift}
use Rattle.table.specs.Table.{house_cell, OfFamily}
use Rattle.table.specs.declared.Table.{Table}
use Rattle.table.proofs.PacketLaws.{most_above, most_below}
use Rattle.table.proofs.TableLaws.{small_product}

-- ---- triangle and bowl

-- one more row of a triangle
triangle_more : (n : ℕ) → triangle (n + 1) ≡ triangle n + (n + 1)
unfolding triangle
triangle_more n =
    let e : (n + 1) * (n + 1 + 1) ≡ n * (n + 1) + (n + 1) * 2 = omega arith in
    rw e (omega arith)

pub triangle_grows : (x y : ℕ) → x ≤ y → triangle x ≤ triangle y
triangle_grows x y h = go (y - x) y refl h
  where
    go : (d y : ℕ) → y - x ≡ d → x ≤ y → triangle x ≤ triangle y
    go zero y e l = let same : y ≡ x = omega arith in omega (arith, ap triangle same)
    go (suc d) zero e l = absurd (omega arith)
    go (suc d) (suc y) e l =
        let next : suc y ≡ y + 1 = omega arith in
        omega (arith, ap triangle next, triangle_more y, go d y (omega arith) (omega arith))

-- from the middle on, and below it
pub bowl-up : (c u n : ℕ) → c + n ≡ u → triangle n ≡ bowl c u
unfolding bowl
bowl-up c u n e =
    let f : n ≡ u - c = omega arith in
    rw (le-leb c u (omega arith)) (ap triangle f)

pub bowl_down : (c u n : ℕ) → u + n + 1 ≡ c → triangle n ≡ bowl c u
unfolding bowl
bowl_down c u n e =
    let f : n ≡ c - u - 1 = omega arith in
    rw (lt-leb c u (omega arith)) (ap triangle f)

-- Gong and Sung 2017, (11): 0 in the middle
pub bowl_nought : (c : ℕ) → bowl c c ≡ 0
unfolding triangle
bowl_nought c = sym (bowl-up c c 0 (omega arith))

-- Gong and Sung 2017, (12): from u to u + 1 it grows by u + 1 − c
pub bowl_step : (c u : ℕ) → bowl c (u + 1) + c ≡ bowl c u + u + 1
unfolding triangle
bowl_step c u = elim (dec_le c u) [
  | yes l ↦ omega (arith, bowl-up c u (u - c) (omega arith), bowl-up c (u + 1) (u - c + 1) (omega arith), triangle_more (u - c))
  | no n ↦ elim (dec_le c (u + 1)) [
    | yes l ↦ omega (arith, bowl_down c u 0 (omega arith), bowl-up c (u + 1) 0 (omega arith))
    | no l ↦
        let n = c - (u + 1) - 1 in
        omega (arith, bowl_down c u (n + 1) (omega arith), bowl_down c (u + 1) n (omega arith), triangle_more n)
  ]
]

-- up to z above the middle, and up to z + 1 below it, it is at most triangle z
bowl_below : (c u z : ℕ) → u ≤ c + z → c ≤ u + z + 1 → bowl c u ≤ triangle z
bowl_below c u z up down = elim (dec_le c u) [
  | yes l ↦ omega (arith, bowl-up c u (u - c) (omega arith), triangle_grows (u - c) z (omega arith))
  | no n ↦ omega (arith, bowl_down c u (c - u - 1) (omega arith), triangle_grows (c - u - 1) z (omega arith))
]

-- ---- the Hankel family

pub hankel_tall : (k m a b : ℕ) → k ≤ m → tall_shift k m a b ≡ hankel_shift k m a b
unfolding hankel_shift
hankel_tall k m a b l = rw (le-leb k m l)

pub hankel_wide : (k m a b : ℕ) → m < k → tall_shift m k b a ≡ hankel_shift k m a b
unfolding hankel_shift
hankel_wide k m a b l = rw (lt-leb k m l)

-- from neighbour to neighbour differences grow
tall_steps : (k m a b : ℕ) → tall_shift k m a (b + 1) + tall_shift k m (a + 1) b < tall_shift k m (a + 1) (b + 1) + tall_shift k m a b
tall_steps k m a b =
    let u = (m - k) / 2 + a + b in
    let beside : (m - k) / 2 + a + (b + 1) ≡ u + 1 = omega arith in
    let below : (m - k) / 2 + (a + 1) + b ≡ u + 1 = omega arith in
    let across : (m - k) / 2 + (a + 1) + (b + 1) ≡ u + 1 + 1 = omega arith in
    rw (beside, below, across) (omega (arith, bowl_step (m + 1) u, bowl_step (m + 1) (u + 1)))

pub hankel_steps : (k m a b : ℕ) → hankel_shift k m a (b + 1) + hankel_shift k m (a + 1) b < hankel_shift k m (a + 1) (b + 1) + hankel_shift k m a b
unfolding hankel_shift
hankel_steps k m a b = go (leb k m)
  where
    go : (v : Bool)
        → cond v (tall_shift k m a (b + 1)) (tall_shift m k (b + 1) a) + cond v (tall_shift k m (a + 1) b) (tall_shift m k b (a + 1))
        < cond v (tall_shift k m (a + 1) (b + 1)) (tall_shift m k (b + 1) (a + 1)) + cond v (tall_shift k m a b) (tall_shift m k b a)
    go true = tall_steps k m a b
    go false = omega (arith, tall_steps m k b a)

-- no shift of a Hankel table is above the one in its last row and column
tall_below : (k m a b : ℕ) → k ≤ m → 1 ≤ a → a ≤ m → 1 ≤ b → b ≤ k → tall_shift k m a b ≤ triangle ((k + m) / 2 - 1)
tall_below k m a b h al ah bl bh = bowl_below (m + 1) ((m - k) / 2 + a + b) ((k + m) / 2 - 1) (omega arith) (omega arith)

hankel_below : (k m a b : ℕ) → 1 ≤ a → a ≤ m → 1 ≤ b → b ≤ k → hankel_shift k m a b ≤ triangle ((k + m) / 2 - 1)
hankel_below k m a b al ah bl bh = elim (dec_le k m) [
  | yes l ↦ omega (arith, hankel_tall k m a b l, tall_below k m a b l al ah bl bh)
  | no n ↦
      let e : (m + k) / 2 - 1 ≡ (k + m) / 2 - 1 = omega arith in
      omega (arith, hankel_wide k m a b (omega arith), tall_below m k b a (omega arith) bl bh al ah, ap triangle e)
]

tall_last : (k m : ℕ) → 1 ≤ k → k ≤ m → tall_shift k m m k ≡ triangle ((k + m) / 2 - 1)
tall_last k m kl h = sym (bowl-up (m + 1) ((m - k) / 2 + m + k) ((k + m) / 2 - 1) (omega arith))

hankel_last : (k m : ℕ) → 1 ≤ k → 1 ≤ m → hankel_shift k m m k ≡ triangle ((k + m) / 2 - 1)
hankel_last k m kl ml = elim (dec_le k m) [
  | yes l ↦ sym (hankel_tall k m m k l) ∙ tall_last k m kl l
  | no n ↦
      let e : (m + k) / 2 - 1 ≡ (k + m) / 2 - 1 = omega arith in
      sym (hankel_wide k m m k (omega arith)) ∙ tall_last m k ml (omega arith) ∙ ap triangle e
]

-- the largest shift
pub hankel_largest : (k m : ℕ) → 1 ≤ k → 1 ≤ m → most m (λ a. most k (λ b. hankel_shift k m (a + 1) (b + 1))) ≡ ((k + m) / 2 - 1) * ((k + m) / 2) / 2
unfolding triangle
hankel_largest k m kl ml =
    let f : ℕ → ℕ → ℕ = λ a b. hankel_shift k m (a + 1) (b + 1) in
    let z = (k + m) / 2 - 1 in
    let half : (k + m) / 2 - 1 + 1 ≡ (k + m) / 2 = omega arith in
    let row : m - 1 + 1 ≡ m = omega arith in
    let column : k - 1 + 1 ≡ k = omega arith in
    let last : f (m - 1) (k - 1) ≡ triangle z = ap₂ (hankel_shift k m) row column ∙ hankel_last k m kl ml in
    let above : f (m - 1) (k - 1) ≤ most m (λ a. most k (f a)) =
    omega (arith, most_above k (f (m - 1)) (k - 1) (omega arith), most_above m (λ a. most k (f a)) (m - 1) (omega arith)) in
    let below : most m (λ a. most k (f a)) ≤ triangle z =
    most_below m (λ a. most k (f a)) (triangle z) (λ a la. most_below k (f a) (triangle z) (λ b lb. hankel_below k m (a + 1) (b + 1) (omega arith) (omega arith) (omega arith) (omega arith))) in
    let e : most m (λ a. most k (f a)) ≡ triangle z = omega arith in
    e ∙ ap (λ x. z * x / 2) half

-- a cell of the full sheet takes a byte, also where the table has no such row or column
pub hankel_byte : (k m a b : ℕ) → k ≤ max_k → m ≤ max_m → a ≤ max_m → b ≤ max_k → hankel_shift k m a b < 256
unfolding triangle
hankel_byte k m a b kh mh ah bh = elim (dec_le k m) [
  | yes l ↦ omega (arith, hankel_tall k m a b l, bowl_below (m + 1) ((m - k) / 2 + a + b) 20 (omega arith) (omega arith))
  | no n ↦ omega (arith, hankel_wide k m a b (omega arith), bowl_below (k + 1) ((k - m) / 2 + b + a) 20 (omega arith) (omega arith))
]

-- ---- the house and the Vandermonde family

-- from neighbour to neighbour, counted from 1, the difference grows
abbrev pub NeighboursGrow : (ℕ → ℕ → ℕ) → Type 0
NeighboursGrow f = (a b : ℕ) → f (a + 1) (b + 1 + 1) + f (a + 1 + 1) (b + 1) < f (a + 1 + 1) (b + 1 + 1) + f (a + 1) (b + 1)

pub house-steps : NeighboursGrow house_shift
house-steps a b =
    let e : b + 1 + 1 - 1 ≡ b + 1 = omega arith in
    let f : b + 1 - 1 ≡ b = omega arith in
    rw (e, f) (omega arith)

pub vandermonde_steps : NeighboursGrow vandermonde_shift
vandermonde_steps a b =
    let e : (x : ℕ) → x + 1 + 1 - 1 ≡ x + 1 = λ x. omega arith in
    let f : (x : ℕ) → x + 1 - 1 ≡ x = λ x. omega arith in
    rw (e a, e b, f a, f b) (omega arith)

-- ---- every family

module _ (k m a b : ℕ) where
  pub family_house : house_shift a b ≡ family_shift 1 k m a b
  unfolding family_shift
  family_house = refl

  pub family_hankel : hankel_shift k m a b ≡ family_shift 2 k m a b
  unfolding family_shift
  family_hankel = refl

  pub family_vandermonde : vandermonde_shift a b ≡ family_shift 3 k m a b
  unfolding family_shift
  family_vandermonde = refl

-- the sheet is the house family's table
pub house_of_family : (k m : ℕ) (t : Table) → t.k ≡ k → t.m ≡ m → ((i : ℕ) → i < cells → at t.shifts i ≡ house_cell i) → OfFamily 1 k m t
house_of_family k m t ek em h = record { k_is = ek; m_is = em; cells_are = λ i l. h i l ∙ family_house k m (i / max_k + 1) (i % max_k + 1) }

-- what holds of the three rules holds of every family's
family_cases : (P : (ℕ → ℕ → ℕ) → Type 0) (family k m : ℕ) → 1 ≤ family → family ≤ max_family → P house_shift → P (hankel_shift k m) → P vandermonde_shift → P (family_shift family k m)
unfolding family_shift
family_cases P zero k m l h house hankel vandermonde = absurd (omega arith)
family_cases P (suc zero) k m l h house hankel vandermonde = house
family_cases P (suc (suc zero)) k m l h house hankel vandermonde = hankel
family_cases P (suc (suc (suc zero))) k m l h house hankel vandermonde = vandermonde
family_cases P (suc (suc (suc (suc n)))) k m l h house hankel vandermonde = absurd (omega arith)

pub family_steps : (family k m : ℕ) → 1 ≤ family → family ≤ max_family → NeighboursGrow (family_shift family k m)
family_steps family k m l h = family_cases NeighboursGrow family k m l h house-steps (λ a b. hankel_steps k m (a + 1) (b + 1)) vandermonde_steps

-- no shift is above the limit
pub family_low_shift : (family k m : ℕ) → 1 ≤ family → family ≤ max_family → k ≤ max_k → m ≤ max_m → (a b : ℕ) → 1 ≤ a → a ≤ m → 1 ≤ b → b ≤ k → family_shift family k m a b ≤ max_shift
unfolding triangle
family_low_shift family k m l h kh mh =
    family_cases (λ f. (a b : ℕ) → 1 ≤ a → a ≤ m → 1 ≤ b → b ≤ k → f a b ≤ max_shift)
    family k m l h
    (λ a b al ah bl bh. omega (arith, small_product a (b - 1) (omega arith) (omega arith)))
    (λ a b al ah bl bh. omega (arith, hankel_below k m a b al ah bl bh, triangle_grows ((k + m) / 2 - 1) 7 (omega arith)))
    (λ a b al ah bl bh. omega (arith, small_product (a - 1) (b - 1) (omega arith) (omega arith)))
