-- Laws of rising numbers and of dictionary order: the first choice, the next, and the last.
use mathlib.Core.Path.{◌≡◌, refl, sym, ap, ap₂, ◌∙◌}
use mathlib.Core.Logic.{◌⊎◌, inl, inr}
use mathlib.Core.List.{List, [], ◌∷◌, ◌++◌}
use Prim.Native.Nat.{ℕ, zero, suc, ◌+◌, ◌≤◌, ◌<◌}
use native.Mathlib.Omega.{arith}
use native.Mathlib.Decide.{ℕ_discrete}
use native.Mathlib.Numerals.{add-one}
use lib.ListN.{length, drop, length-append}
use Rattle.bits.specs.Sums.{at}
use Rattle.choices.specs.Choices.{Rising, Before, Choice, First, Next, Last, run, Full}

pub run_length : (a n : ℕ) → length (run a n) ≡ n
run_length a zero = refl
run_length a (suc n) = ap suc (run_length (suc a) n)

pub run_more : (a n : ℕ) → run a (n + 1) ≡ run a n ++ (a + n) ∷ []
run_more a n = rw add-one (go a n)
  where
    go : (a n : ℕ) → run a (suc n) ≡ run a n ++ (a + n) ∷ []
    go a zero = ap (λ x. x ∷ []) (omega arith)
    go a (suc n) = ap (λ t. a ∷ t) (go (suc a) n ∙ ap (λ x. run (suc a) n ++ x ∷ []) (omega arith))

-- of numbers that rise, the last that can grow: what stands before it, and the full rest after it
pub record Grows (n : ℕ) (xs : List ℕ) : Type 0 where
  pub front : List ℕ
  pub number : ℕ
  pub rest : List ℕ
  pub parts : xs ≡ front ++ number ∷ rest
  pub full : Full n rest
  pub room : number + length rest < n

module _ (n : ℕ) where
  rising_from : (low low' : ℕ) (xs : List ℕ) → low' ≤ low → Rising low n xs → Rising low' n xs
  rising_from low low' [] l r = tt
  rising_from low low' (x ∷ xs) l r = (omega (arith, r.0), r.1, r.2)

  pub rising_to : (low n' : ℕ) (xs : List ℕ) → n ≤ n' → Rising low n xs → Rising low n' xs
  rising_to low n' [] l r = tt
  rising_to low n' (x ∷ xs) l r = (r.0, omega (arith, r.1), rising_to x n' xs l r.2)

  -- numbers that rise leave room for those after them
  pub rising_room : (low x : ℕ) (xs : List ℕ) → Rising low n (x ∷ xs) → x + length xs ≤ n
  rising_room low x [] r = omega (arith, r.1)
  rising_room low x (y ∷ xs) r = omega (arith, rising_room x y xs r.2, r.2.0)

  -- by place: each number is above the one before it, and none is above n
  pub rising_at : (low : ℕ) (xs : List ℕ) → Rising low n xs → (i : ℕ) → i < length xs → (at (low ∷ xs) i < at xs i) × (at xs i ≤ n)
  rising_at low [] r i l = absurd (omega arith)
  rising_at low (x ∷ xs) r zero l = (r.0, r.1)
  rising_at low (x ∷ xs) r (suc i) l = rising_at x xs r.2 i (omega arith)

  pub rising_of : (low : ℕ) (xs : List ℕ) → ((i : ℕ) → i < length xs → (at (low ∷ xs) i < at xs i) × (at xs i ≤ n)) → Rising low n xs
  rising_of low [] h = tt
  rising_of low (x ∷ xs) h = ((h 0 (omega arith)).0, (h 0 (omega arith)).1, rising_of x xs (λ i l. h (suc i) (omega arith)))

  pub rising_drop : (low : ℕ) (xs : List ℕ) (i : ℕ) → Rising low n xs → i ≤ length xs → Rising (at (low ∷ xs) i) n (drop i xs)
  rising_drop low xs zero r l = r
  rising_drop low [] (suc i) r l = absurd (omega arith)
  rising_drop low (x ∷ xs) (suc i) r l = rising_drop x xs i r.2 (omega arith)

  pub run_rising : (low m : ℕ) → low + m ≤ n → Rising low n (run (suc low) m)
  run_rising low zero l = tt
  run_rising low (suc m) l = (omega arith, omega arith, run_rising (suc low) m (omega arith))

  -- what counts up from the least number is the first
  pub run_least : (low : ℕ) (zs : List ℕ) → Rising low n zs → (zs ≡ run (suc low) (length zs)) ⊎ Before (run (suc low) (length zs)) zs
  run_least low [] r = inl refl
  run_least low (z ∷ zs) r = elim (ℕ_discrete (suc low) z) [
    | yes e ↦ go e (run_least (suc low) zs (rising_from z (suc low) zs (omega arith) r.2))
    | no ne ↦ inr (inl (omega (arith, r.0)))
  ]
    where
      go : suc low ≡ z → (zs ≡ run (suc (suc low)) (length zs)) ⊎ Before (run (suc (suc low)) (length zs)) zs
          → (z ∷ zs ≡ run (suc low) (suc (length zs))) ⊎ Before (run (suc low) (suc (length zs))) (z ∷ zs)
      go e (inl q) = inl (ap₂ (λ a l. a ∷ l) (sym e) q)
      go e (inr q) = inr (inr (e, q))

  -- nothing comes after what is full
  pub full_last : (low : ℕ) (xs zs : List ℕ) → Full n xs → Rising low n zs → length zs ≡ length xs → Before xs zs → ⊥
  full_last low [] zs f r e b = b
  full_last low (x ∷ xs) [] f r e b = b
  full_last low (x ∷ xs) (z ∷ zs) f r e (inl l) = omega (arith, f.0, rising_room low z zs r)
  full_last low (x ∷ xs) (z ∷ zs) f r e (inr q) = full_last z xs zs f.1 r.2 (omega arith) q.1

  -- numbers that rise are full, or one can grow
  pub full_or_grows : (low : ℕ) (xs : List ℕ) → Rising low n xs → Full n xs ⊎ Grows n xs
  full_or_grows low [] r = inl tt
  full_or_grows low (x ∷ xs) r = go (full_or_grows x xs r.2)
    where
      go : Full n xs ⊎ Grows n xs → Full n (x ∷ xs) ⊎ Grows n (x ∷ xs)
      go (inl f) = elim (ℕ_discrete (x + length xs) n) [
        | yes e ↦ inl (e, f)
        | no ne ↦ inr (record { front = []; number = x; rest = xs; parts = refl; full = f; room = omega (arith, rising_room low x xs r) })
      ]
      go (inr g) = inr (record { front = x ∷ g.front; number = g.number; rest = g.rest; parts = ap (λ t. x ∷ t) g.parts; full = g.full; room = g.room })

  -- what comes next after p, a number x that can grow, and a full rest t
  module _ (x : ℕ) (t : List ℕ) where
    abbrev pub grown : List ℕ → List ℕ
    grown p = p ++ run (suc x) (suc (length t))

    pub grown_rising : (low : ℕ) (p : List ℕ) → x + length t < n → Rising low n (p ++ x ∷ t) → Rising low n (grown p)
    grown_rising low [] l r = rising_from x low (run (suc x) (suc (length t))) (omega (arith, r.0)) (run_rising x (suc (length t)) (omega arith))
    grown_rising low (y ∷ p) l r = (r.0, r.1, grown_rising y p l r.2)

    pub grown-after : (p : List ℕ) → Before (p ++ x ∷ t) (grown p)
    grown-after [] = inl (omega arith)
    grown-after (y ∷ p) = inr (refl, grown-after p)

    pub grown-length : (p : List ℕ) → length (grown p) ≡ length (p ++ x ∷ t)
    grown-length p = length-append p (run (suc x) (suc (length t))) ∙ ap (λ m. length p + suc m) (run_length (suc (suc x)) (length t)) ∙ sym (length-append p (x ∷ t))

    pub grown_least : (low : ℕ) (p zs : List ℕ) → Full n t → Rising low n zs → length zs ≡ length (p ++ x ∷ t)
        → Before (p ++ x ∷ t) zs → (zs ≡ grown p) ⊎ Before (grown p) zs
    grown_least low [] [] f r e b = absurd b
    grown_least low [] (z ∷ zs) f r e (inl l) =
        let q : length zs ≡ length t = omega arith in
        rw (← q) (run_least x (z ∷ zs) (l, r.1, r.2))
    grown_least low [] (z ∷ zs) f r e (inr q) = absurd (full_last z t zs f r.2 (omega arith) q.1)
    grown_least low (y ∷ p) [] f r e b = absurd b
    grown_least low (y ∷ p) (z ∷ zs) f r e (inl l) = inr (inl l)
    grown_least low (y ∷ p) (z ∷ zs) f r e (inr q) = go (grown_least z p zs f r.2 (omega arith) q.1)
      where
        go : (zs ≡ grown p) ⊎ Before (grown p) zs → (z ∷ zs ≡ y ∷ grown p) ⊎ Before (y ∷ grown p) (z ∷ zs)
        go (inl w) = inl (ap₂ (λ a l. a ∷ l) (sym q.0) w)
        go (inr w) = inr (inr (q.0, w))

-- two are not each before the other
pub before_one_way : (xs ys : List ℕ) → Before xs ys → Before ys xs → ⊥
before_one_way [] ys b c = b
before_one_way (x ∷ xs) [] b c = b
before_one_way (x ∷ xs) (y ∷ ys) (inl l) (inl l') = omega arith
before_one_way (x ∷ xs) (y ∷ ys) (inl l) (inr q) = omega (arith, q.0)
before_one_way (x ∷ xs) (y ∷ ys) (inr q) (inl l) = omega (arith, q.0)
before_one_way (x ∷ xs) (y ∷ ys) (inr q) (inr q') = before_one_way xs ys q.1 q'.1

pub first_choice : (k n : ℕ) → k ≤ n → First k n (run 1 k)
first_choice k n l = record {
  choice = record { size = run_length 1 k; rising = run_rising n 0 k (omega arith) };
  least = λ zs c. rw (← c.size) (run_least n 0 zs c.rising);
}

pub next_choice : (k n x : ℕ) (p t : List ℕ) → Choice k n (p ++ x ∷ t) → Full n t → x + length t < n → Next k n (p ++ x ∷ t) (grown n x t p)
next_choice k n x p t c f l = record {
  choice = record { size = grown-length n x t p ∙ c.size; rising = grown_rising n x t 0 p l c.rising };
  after = grown-after n x t p;
  least = λ zs d b. grown_least n x t 0 p zs f d.rising (d.size ∙ sym c.size) b;
}

pub last_choice : (k n : ℕ) (xs : List ℕ) → Choice k n xs → Full n xs → Last k n xs
last_choice k n xs c f zs d b = full_last n 0 xs zs f d.rising (d.size ∙ sym c.size) b
