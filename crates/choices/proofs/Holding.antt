-- Laws of a choice as the code holds it, eight numbers with noughts after it.
use mathlib.Core.Path.{◌≡◌, refl, sym, ap, ap₂, ◌∙◌}
use mathlib.Core.List.{List, [], ◌∷◌, ◌++◌, append_assoc}
use Prim.Native.Nat.{ℕ, zero, suc, ◌+◌, ◌-◌, ◌≤◌, ◌<◌}
use native.Mathlib.Omega.{arith}
use native.Mathlib.Numerals.{add-one}
use lib.ListN.{length, take, drop, set, replicate, length-append, length-take, length-drop, length-replicate, get_or-replicate, drop_of_length-le}
use lib.Seq.{get_or-take, get_or-drop, drop-cons, ext_get_or, set_at, append_snoc}
use Rattle.bits.specs.Sums.{at}
use Rattle.choices.specs.Choices.{Rising, Full, run}
use Rattle.choices.proofs.Orders.{rising_at, rising_of, rising_drop, rising_room, run_length, run_more}

-- the number before place j, of the first k
before_take : (k : ℕ) (xs : List ℕ) (j : ℕ) → j < k → at (0 ∷ take k xs) j ≡ at (0 ∷ xs) j
before_take k xs zero l = refl
before_take k xs (suc j) l = get_or-take k xs j 0 (omega arith)

module _ (n k : ℕ) (xs : List ℕ) (long : k ≤ length xs) where
  taken : length (take k xs) ≡ k
  taken = simp length-take (omega arith)

  -- the first k rise exactly when each is above the one before it, and none is above n
  pub rising_take : ((j : ℕ) → j < k → (at (0 ∷ xs) j < at xs j) × (at xs j ≤ n)) → Rising 0 n (take k xs)
  rising_take h = rising_of n 0 (take k xs) (λ j l.
      let lk : j < k = omega (arith, taken) in
      let r = h j lk in
      (rw (before_take k xs j lk, get_or-take k xs j 0 lk) r.0, rw (get_or-take k xs j 0 lk) r.1))

  pub take_rising : Rising 0 n (take k xs) → (j : ℕ) → j < k → (at (0 ∷ xs) j < at xs j) × (at xs j ≤ n)
  take_rising r j lk =
      let h = rising_at n 0 (take k xs) r j (omega (arith, taken)) in
      let e = get_or-take k xs j 0 lk in
      (omega (arith, h.0, before_take k xs j lk, e), omega (arith, h.1, e))

  -- a number that leaves no more room than the full rest takes is part of what is full
  pub full_more : (j : ℕ) → 0 < j → j ≤ k → Rising 0 n (take k xs) → Full n (drop j (take k xs)) → n ≤ at xs (j - 1) + (k - j) → Full n (drop (j - 1) (take k xs))
  full_more zero p l r f h = absurd (omega arith)
  full_more (suc j) p l r f h =
      let q : suc j - 1 ≡ j = omega arith in
      let c = drop-cons (take k xs) j 0 (omega (arith, taken)) in
      let e = get_or-take k xs j 0 (omega arith) in
      let room = rising_room n _ (at (take k xs) j) (drop (suc j) (take k xs)) (rw c at (rising_drop n 0 (take k xs) j r (omega (arith, taken)))) in
      rw (q, c) (omega (arith, room, e, ap (at xs) q, length-drop (suc j) (take k xs), taken), f)

  pub all_full : Full n (drop k (take k xs))
  all_full =
      let l : length (take k xs) ≤ k = omega (arith, taken) in
      rw (drop_of_length-le (take k xs) l) tt

-- noughts from place k on
pub blank : (k : ℕ) (xs : List ℕ) → k ≤ length xs → ((j : ℕ) → k ≤ j → j < length xs → at xs j ≡ 0) → drop k xs ≡ replicate (length xs - k) 0
blank k xs l h = ext_get_or 0 (drop k xs) (replicate (length xs - k) 0) (length-drop k xs ∙ sym (length-replicate (length xs - k) 0)) (λ i li.
    let b : i < length xs - k = omega (arith, length-drop k xs) in
    get_or-drop k xs i 0 ∙ h (k + i) (omega arith) (omega arith) ∙ sym (get_or-replicate (length xs - k) i 0 0 b))

-- one number more of those that count up
pub counted_more : (xs : List ℕ) (i a x : ℕ) → i ≤ a → a < length xs → set (take i xs ++ run x (a - i) ++ drop a xs) a (x + (a - i)) ≡ take i xs ++ run x (a + 1 - i) ++ drop (a + 1) xs
counted_more xs i a x li la =
    let j = a - i in
    let p = take i xs ++ run x j in
    let lp : length p ≡ a = length-append (take i xs) (run x j) ∙ ap₂ ◌+◌ (length-take i xs) (run_length x j) ∙ omega arith in
    let f : a + 1 - i ≡ j + 1 = omega arith in
    rw (drop-cons xs a 0 la, f) (set_at p (at xs a) (drop (suc a) xs) (x + j) a lp
    ∙ sym (append_snoc p (x + j) (drop (suc a) xs))
    ∙ ap₂ ◌++◌ (append_assoc (take i xs) (run x j) ((x + j) ∷ []) ∙ ap (λ t. take i xs ++ t) (sym (run_more x j))) (ap (λ d. drop d xs) (sym (add-one a))))
