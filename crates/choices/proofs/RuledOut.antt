-- Wrong programs: no answer of that form meets the promise at this input. Assumes nothing.
use mathlib.Core.Path.{◌≡◌, refl, ap, subst}
use mathlib.Core.Logic.{inl, inr}
use mathlib.Core.Bool.{Bool, true, false}
use mathlib.Core.List.{List, [], ◌∷◌}
use Prim.Native.Nat.{ℕ, ◌+◌, ◌≤◌, ◌<◌}
use native.Mathlib.Omega.{arith}
use Rattle.bits.specs.Sums.{at}
use Rattle.bits.specs.Bits.{Tells}
use Rattle.table.specs.Limits.{noughts}
use Rattle.table.proofs.CheckLaws.{sized}
use Rattle.table.proofs.Taken.{inside_b, size_b, size_taken}
use Rattle.choices.specs.Choices.{Before, padded}
use Rattle.choices.specs.Promise.{Holding, Begins, Follows, OrNoughts}
use Rattle.choices.proofs.Orders.{before_one_way}
use Rattle.choices.proofs.Successors.{held-take, held_rises_to_n, held_not_noughts, one_held, begins_run, grown_follows, nothing_follows}
use Rattle.choices.proofs.OneAnswer.{one_first, one_next}

-- ---- is_choice

-- the answer tells whether what is held is a choice
abbrev pub Told : Bool → ℕ → ℕ → List ℕ → Type 0
Told answer k m held = Tells answer ((ids : List ℕ) × Holding k m held ids)

-- a test that takes a number twice
pub no_number_twice : Told true 2 2 (padded (1 ∷ 1 ∷ [])) → ⊥
no_number_twice x = omega (arith, (held_rises_to_n 2 2 (padded (1 ∷ 1 ∷ [])) (x.so refl).1).2.0)

-- one that takes numbers that fall
pub no_falling_numbers : Told true 2 2 (padded (2 ∷ 1 ∷ [])) → ⊥
no_falling_numbers x = omega (arith, (held_rises_to_n 2 2 (padded (2 ∷ 1 ∷ [])) (x.so refl).1).2.0)

-- one that takes a number above n
pub no_number_above : Told true 2 2 (padded (1 ∷ 5 ∷ [])) → ⊥
no_number_above x = omega (arith, (held_rises_to_n 2 2 (padded (1 ∷ 5 ∷ [])) (x.so refl).1).2.1)

-- one that does not look past the k numbers
pub no_number_past_k : Told true 2 2 (padded (1 ∷ 2 ∷ 3 ∷ [])) → ⊥
no_number_past_k x = omega (arith, ap (λ l. at l 0) (held-take 2 2 (padded (1 ∷ 2 ∷ 3 ∷ [])) (x.so refl).1).1)

-- one that takes noughts for a choice of no numbers
pub no_choice_of_none : Told true 0 2 noughts → ⊥
no_choice_of_none x = omega (arith, (sized 0 2 (x.so refl).1.sized).k_low)

-- two numbers that rise are a choice
two-held : (m a b : ℕ) → size_b 2 m ≡ true → 0 < a → a < b → b ≤ 2 + m → Holding 2 m (padded (a ∷ b ∷ [])) (a ∷ b ∷ [])
two-held m a b s low rise high = record {
  sized = size_taken 2 m s;
  choice = record { size = refl; rising = (low, omega arith, (rise, high, tt)) };
  held_is = refl;
}

-- one that refuses the number n
pub no_last_number_refused : Told false 2 2 (padded (3 ∷ 4 ∷ [])) → ⊥
unfolding size_b inside_b
no_last_number_refused x = x.not_so refl (3 ∷ 4 ∷ [], two-held 2 3 4 refl (omega arith) (omega arith) (omega arith))

-- ---- first

-- the first choice of 2 numbers is 1,2
first_of : (m : ℕ) → size_b 2 m ≡ true → {held : List ℕ} → OrNoughts (Begins 2 m) held → held ≡ padded (1 ∷ 2 ∷ [])
first_of m s {held} x = one_first 2 m held (padded (1 ∷ 2 ∷ [])) x (inl (begins_run 2 m (size_taken 2 m s)))

-- noughts given although there is a first
pub no_first_of_noughts : OrNoughts (Begins 2 2) noughts → ⊥
unfolding size_b inside_b
no_first_of_noughts x = omega (arith, ap (λ l. at l 0) (first_of 2 refl x))

-- a choice that counts from 0
pub no_first_from_nought : {held : List ℕ} → at held 1 ≡ 1 → OrNoughts (Begins 2 2) held → ⊥
unfolding size_b inside_b
no_first_from_nought e x = omega (arith, e, ap (λ l. at l 1) (first_of 2 refl x))

-- one that counts on past the k numbers
pub no_first_past_k : {held : List ℕ} → (at held 2 ≡ 0 → ⊥) → OrNoughts (Begins 2 2) held → ⊥
unfolding size_b inside_b
no_first_past_k n x = n (ap (λ l. at l 2) (first_of 2 refl x))

-- choices ordered by their text: 1,10 before 1,2
pub no_first_by_text : {held : List ℕ} → at held 1 ≡ 10 → OrNoughts (Begins 2 8) held → ⊥
unfolding size_b inside_b
no_first_by_text e x = omega (arith, e, ap (λ l. at l 1) (first_of 8 refl x))

-- one that gives anything where the size is refused
pub no_first_of_nine : {held : List ℕ} → (held ≡ noughts → ⊥) → OrNoughts (Begins 9 1) held → ⊥
no_first_of_nine n (inl x) = omega (arith, (sized 9 1 x.sized).k_high)
no_first_of_nine n (inr x) = n x.1

-- ---- next

-- choices ordered by their text: after 1,9 one that begins with 2
pub no_next_by_text : {held : List ℕ} → at held 0 ≡ 2 → OrNoughts (Follows 2 8 (padded (1 ∷ 9 ∷ []))) held → ⊥
unfolding size_b inside_b
no_next_by_text {held} e x =
    let from = padded (1 ∷ 9 ∷ []) in
    let was = two-held 8 1 9 refl (omega arith) (omega arith) (omega arith) in
    omega (arith, e, ap (λ l. at l 0) (one_next 2 8 from held (padded (1 ∷ 10 ∷ [])) x (inl (grown_follows 2 8 from was 1 (omega arith) tt (omega arith)))))

-- one that leaves the numbers after the one that grows as they were: 2,4 after 1,4
pub no_next_with_the_old_end : {held : List ℕ} → at held 1 ≡ 4 → OrNoughts (Follows 2 2 (padded (1 ∷ 4 ∷ []))) held → ⊥
unfolding size_b inside_b
no_next_with_the_old_end {held} e x =
    let from = padded (1 ∷ 4 ∷ []) in
    let was = two-held 2 1 4 refl (omega arith) (omega arith) (omega arith) in
    omega (arith, e, ap (λ l. at l 1) (one_next 2 2 from held (padded (2 ∷ 3 ∷ [])) x (inl (grown_follows 2 2 from was 0 (omega arith) (refl, tt) (omega arith)))))

-- noughts given before the last choice
pub no_end_before_the_last : OrNoughts (Follows 2 2 (padded (2 ∷ 4 ∷ []))) noughts → ⊥
unfolding size_b inside_b
no_end_before_the_last x =
    let from = padded (2 ∷ 4 ∷ []) in
    let was = two-held 2 2 4 refl (omega arith) (omega arith) (omega arith) in
    omega (arith, ap (λ l. at l 0) (one_next 2 2 from noughts (padded (3 ∷ 4 ∷ [])) x (inl (grown_follows 2 2 from was 0 (omega arith) (refl, tt) (omega arith)))))

-- one that begins anew after the last choice
pub no_next_after_the_last : {held : List ℕ} → (held ≡ noughts → ⊥) → OrNoughts (Follows 2 2 (padded (3 ∷ 4 ∷ []))) held → ⊥
unfolding size_b inside_b
no_next_after_the_last n (inl x) =
    let was = two-held 2 3 4 refl (omega arith) (omega arith) (omega arith) in
    nothing_follows 2 2 (padded (3 ∷ 4 ∷ [])) was (refl, (refl, tt)) _ x
no_next_after_the_last n (inr x) = n x.1

-- one that takes noughts for what comes before the first choice
pub no_next_of_noughts : {held : List ℕ} → (held ≡ noughts → ⊥) → OrNoughts (Follows 2 2 noughts) held → ⊥
no_next_of_noughts n (inl x) = held_not_noughts 2 2 noughts x.was refl
no_next_of_noughts n (inr x) = n x.1

-- one that repeats a choice, whichever it is
pub no_choice_twice : {k m : ℕ} {held ids : List ℕ} → Holding k m held ids → OrNoughts (Follows k m held) held → ⊥
no_choice_twice {k} {m} {held} h (inl x) =
    let again : Holding k m held x.then = record { sized = h.sized; choice = x.next.choice; held_is = x.held_is } in
    let e : x.then ≡ x.ids = one_held k m held again x.was in
    let itself = subst (Before x.ids) e x.next.after in
    before_one_way x.ids x.ids itself itself
no_choice_twice {k} {m} {held} h (inr x) = held_not_noughts k m held h x.1
