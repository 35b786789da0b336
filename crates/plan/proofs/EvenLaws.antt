-- Columns that rise evenly over the rows, and rows over the columns. Assumes nothing.
use mathlib.Core.Path.{◌≡◌}
use mathlib.Core.Bool.{true, false}
use mathlib.Core.List.{List}
use Prim.Native.Nat.{ℕ, ◌+◌, ◌-◌, ◌*◌, ◌≤◌, ◌<◌}
use native.Mathlib.Omega.{arith}
use native.Mathlib.Nat.{mul-pos}
use Rattle.table.specs.Desk.{Desk}
use Rattle.plan.specs.Plan.{EvenRows, EvenColumns}
use Rattle.plan.specs.Even.{shift_at, RisesBy, Even, HasRoom}

-- of products, the two outer ones are more than the two inner ones
cross : (i d v e : ℕ) → 0 < d → 0 < e → i * (v + e) + (i + d) * v < (i + d) * (v + e) + i * v
cross i d v e ld le = omega (arith, mul-pos ld le)

module _ (t : ℕ → ℕ → ℕ) (n : ℕ) where
  -- differences grow where columns rise evenly, each by more than the one before
  pub even_grows : (v : ℕ → ℕ) → ((b : ℕ) → b < n → RisesBy t n b (v b)) → ((b b' : ℕ) → b < b' → b' < n → v b < v b')
      → (i i' b b' : ℕ) → i < i' → i' < n → b < b' → b' < n → t i b' + t i' b < t i' b' + t i b
  even_grows v by rising i i' b b' ii li bb lb =
      let up = rising b b' bb lb in
      let ei : i + (i' - i) ≡ i' = omega arith in
      let ev : v b + (v b' - v b) ≡ v b' = omega (arith, up) in
      let x = rw (ei, ev) at (cross i (i' - i) (v b) (v b' - v b) (omega arith) (omega (arith, up))) in
      omega (arith, x, by b (omega arith) i (omega arith), by b (omega arith) i' li, by b' lb i (omega arith), by b' lb i' li)

-- with room, the rows are even; turned, the columns
module _ (D : Desk) (rows columns : List ℕ) (n : ℕ) (v : List ℕ) (some : 1 ≤ n) (room : HasRoom (shift_at D rows columns false) n) where
  pub even_rows : Even (shift_at D rows columns false) n v → EvenRows D rows columns n v
  unfolding shift_at
  even_rows E = record {
    even = λ i b li lb. E.by b lb i li;
    rising = E.rising;
    room = λ b lb. omega (arith, E.by b lb (n - 1) (omega arith), room b lb);
  }

  pub even_columns : Even (shift_at D rows columns true) n v → EvenColumns D rows columns n v
  unfolding shift_at
  even_columns E = record {
    even = λ i b li lb. omega (arith, E.by i li b lb);
    rising = E.rising;
    room = λ b lb. omega (arith, E.by (n - 1) (omega arith) b lb, room b lb);
  }
