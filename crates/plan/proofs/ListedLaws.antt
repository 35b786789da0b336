-- Lists of all numbers of a kind, in order. Assumes nothing.
use mathlib.Core.Path.{◌≡◌, refl, sym, ap, ◌∙◌}
use mathlib.Core.Logic.{◌≢◌}
use mathlib.Core.Bool.{Bool, true, false, true≢false}
use mathlib.Core.List.{List}
use Prim.Native.Nat.{ℕ, zero, suc, ◌≤◌, ◌<◌}
use native.Mathlib.Omega.{arith}
use native.Mathlib.Numerals.{add-one}
use native.Mathlib.Decide.{ℕ_discrete, dec_lt}
use Rattle.bits.specs.Sums.{at, sum, count}
use Rattle.bits.proofs.SumLaws.{count_in, count-out, count_grows}
use Rattle.table.specs.Desk.{mark}
use Rattle.search.specs.Search.{Lists}
use Rattle.plan.specs.Plan.{Listed}

-- the numbers that are not marked, listed one after the other
module _ (k marks : ℕ) (list : List ℕ) (n : ℕ) (L : Lists k marks list n k) where
  grow : (i j : ℕ) → i < j → j < n → at list i < at list j
  grow i zero l h = absurd (omega arith)
  grow i (suc j) l h =
      let up : at list j < at list (suc j) = omega (arith, L.grow j (omega arith), ap (at list) (add-one j)) in
      elim (ℕ_discrete i j) [
        | yes e ↦ omega (arith, up, ap (at list) e)
        | no ne ↦ omega (arith, up, grow i j (omega arith) (omega arith))
      ]

  find : (c : ℕ) → mark marks c ≡ false → (j : ℕ) → j ≤ n → c < at list j → (i : ℕ) × (i < n) × (at list i ≡ c)
  find c e zero l h = absurd (true≢false (sym (L.first c (omega arith) h) ∙ e))
  find c e (suc j) l h = elim (dec_lt c (at list j)) [
    | yes q ↦ find c e j (omega arith) q
    | no q ↦ elim (ℕ_discrete (at list j) c) [
      | yes f ↦ (j, omega arith, f)
      | no nf ↦ absurd (true≢false (sym (L.between j (omega arith) c (omega arith) (omega (arith, ap (at list) (add-one j)))) ∙ e))
    ]
  ]

  pub lists_listed : Listed (λ c. (c < k) × (mark marks c ≡ false)) list n
  lists_listed = record {
    inside = λ i l. (L.inside i l, L.gone i l);
    rising = grow;
    every = λ c h. find c h.1 n (omega arith) (omega (arith, h.0, L.last));
  }

-- numbers of a kind by another name
pub listed_same : (P Q : ℕ → Type 0) (list : List ℕ) (n : ℕ) → ((c : ℕ) → P c → Q c) → ((c : ℕ) → Q c → P c) → Listed P list n → Listed Q list n
listed_same P Q list n to from L = record { inside = λ i l. to (at list i) (L.inside i l); rising = L.rising; every = λ c q. L.every c (from c q) }

module _ (Kind : ℕ → Type 0) (list : List ℕ) (n : ℕ) (L : Listed Kind list n) where
  -- no number is listed twice
  pub listed_distinct : (i j : ℕ) → i < n → j < n → i ≢ j → at list i ≢ at list j
  listed_distinct i j li lj ne e = elim (dec_lt i j) [
    | yes l ↦ omega (arith, L.rising i j l lj)
    | no l ↦ omega (arith, L.rising j i (omega arith) li)
  ]

  -- of two numbers the lower is listed first
  pub listed_order : (i j : ℕ) → i < n → at list i < at list j → i < j
  listed_order i j li l = elim (dec_lt i j) [
    | yes h ↦ h
    | no h ↦ elim (ℕ_discrete j i) [
      | yes e ↦ absurd (omega (arith, ap (at list) e))
      | no ne ↦ absurd (omega (arith, L.rising j i (omega arith) li))
    ]
  ]

-- as many numbers below k pass as are listed
module _ (k : ℕ) (on : ℕ → Bool) (list : List ℕ) (n : ℕ) (L : Listed (λ c. (c < k) × (on c ≡ true)) list n) where
  -- so many at least below a number listed
  at_least : (i : ℕ) → i < n → suc i ≤ count (suc (at list i)) on
  at_least zero l = omega (arith, count_in (at list 0) on (L.inside 0 l).1)
  at_least (suc i) l =
      omega (arith, at_least i (omega arith), count_grows on (suc (at list i)) (at list (suc i)) (L.rising i (suc i) (omega arith) l), count_in (at list (suc i)) on (L.inside (suc i) l).1)

  -- and no more than those listed before
  at_most : (c : ℕ) → c ≤ k → (i : ℕ) → i ≤ n → ((j : ℕ) → j < n → at list j < c → j < i) → count c on ≤ i
  unfolding sum
  at_most zero l i li h = omega arith
  at_most (suc c) l i li h = go (on c) refl (at_most c (omega arith))
    where
      go : (v : Bool) → on c ≡ v → ((i : ℕ) → i ≤ n → ((j : ℕ) → j < n → at list j < c → j < i) → count c on ≤ i) → count (suc c) on ≤ i
      go false e below = omega (arith, count-out c on e, below i li (λ j lj q. h j lj (omega arith)))
      go true e below =
          let x = L.every c (omega arith, e) in
          let before : (j : ℕ) → j < n → at list j < c → j < x.0 = λ j lj q. listed_order (λ c. (c < k) × (on c ≡ true)) list n L j x.0 lj (omega (arith, x.2)) in
          omega (arith, count_in c on e, below x.0 (omega (arith, x.1)) before, h x.0 x.1 (omega (arith, x.2)))

  pub listed_count : count k on ≡ n
  listed_count = omega (arith, at_most k (omega arith) n (omega arith) (λ j lj _. lj), all n refl)
    where
      all : (i : ℕ) → i ≡ n → n ≤ count k on
      all zero e = omega arith
      all (suc i) e = omega (arith, at_least i (omega arith), count_grows on (suc (at list i)) k (L.inside i (omega arith)).0)
