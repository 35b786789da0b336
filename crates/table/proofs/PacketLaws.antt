-- Laws of the bits, bytes and places of packets. Assumes nothing.
use mathlib.Core.Path.{◌≡◌, refl, sym, ap, ◌∙◌}
use mathlib.Core.Bool.{Bool, true, false, cond}
use Prim.Native.Nat.{ℕ, max, zero, suc, ◌+◌, ◌-◌, ◌*◌, ◌≤◌, ◌<◌}
use native.Mathlib.Omega.{arith}
use native.Mathlib.Numerals.{add-one}
use native.Mathlib.Nat.{add-zero, add-sub_cancel_left, mul_comm}
use native.Mathlib.Decide.{ℕ_discrete, dec_le}
use lib.Dec.{leb}
use lib.ListN.{replicate}
use borrow.Author.Tests.{le-leb, lt-leb, lt-ltb, le-ltb}
use Rattle.bits.specs.Sums.{pick, sum, count}
use Rattle.bits.proofs.SumLaws.{sum_same, sum_grows, sum_each}
use Rattle.table.specs.Table.{NextMark, Measured, laid_out}
use Rattle.table.specs.Limits.{max_k, max_length, max_bits, max_bytes}
use Rattle.table.proofs.TableLaws.{noughts-at, laid_in}
use Rattle.table.specs.Desk.{Desk, mark, most, source_bits, source_bytes, reach, packet_bits, packet_bytes, place_of, bytes_for}

-- one value more
pub most_more : (n : ℕ) (f : ℕ → ℕ) → max (most n f) (f n) ≡ most (n + 1) f
unfolding most
most_more n f = rw add-one (elim (dec_le (f n) (most n f)) [
  | yes h ↦ rw (le-leb (f n) (most n f) h) (omega arith)
  | no h ↦ let l : most n f < f n = omega arith in rw (lt-leb (f n) (most n f) l) (omega arith)
])

-- the larger of two
larger_left : (x y : ℕ) → x ≤ pick (leb y x) x y
larger_left x y = elim (dec_le y x) [ yes h ↦ rw (le-leb y x h) (omega arith) | no h ↦ let l : x < y = omega arith in rw (lt-leb y x l) (omega arith) ]

larger_right : (x y : ℕ) → y ≤ pick (leb y x) x y
larger_right x y = elim (dec_le y x) [ yes h ↦ rw (le-leb y x h) h | no h ↦ let l : x < y = omega arith in rw (lt-leb y x l) (omega arith) ]

larger_below : (x y z : ℕ) → x ≤ z → y ≤ z → pick (leb y x) x y ≤ z
larger_below x y z p q = elim (dec_le y x) [ yes h ↦ rw (le-leb y x h) p | no h ↦ let l : x < y = omega arith in rw (lt-leb y x l) q ]

-- the largest is above each, and below what each is below
pub most_above : (n : ℕ) (f : ℕ → ℕ) (i : ℕ) → i < n → f i ≤ most n f
unfolding most
most_above zero f i l = absurd (omega arith)
most_above (suc n) f i l = elim (ℕ_discrete i n) [
  | yes e ↦ omega (arith, ap f e, larger_right (most n f) (f n))
  | no ne ↦ omega (arith, most_above n f i (omega arith), larger_left (most n f) (f n))
]

pub most_below : (n : ℕ) (f : ℕ → ℕ) (z : ℕ) → ((i : ℕ) → i < n → f i ≤ z) → most n f ≤ z
unfolding most
most_below zero f z h = omega arith
most_below (suc n) f z h = larger_below (most n f) (f n) z (most_below n f z (λ i l. h i (omega arith))) (h n (omega arith))

pub most_same : (n : ℕ) (f g : ℕ → ℕ) → ((i : ℕ) → i < n → f i ≡ g i) → most n f ≡ most n g
most_same n f g h = omega (
  arith,
  most_below n f (most n g) (λ i l. omega (arith, h i l, most_above n g i l)),
  most_below n g (most n f) (λ i l. omega (arith, h i l, most_above n f i l)),
)

-- on a sheet of noughts no parity reaches anywhere
pub noughts_measured : (k m n n' : ℕ) → Measured k m (replicate n 0) (replicate n' 0)
noughts_measured k m n n' a l =
    let row = laid_out k (replicate n 0) a in
    omega (arith, noughts-at n' a, most_below k row 0 (λ b lb. omega (arith, laid_in k (replicate n 0) a b lb, noughts-at n (a * max_k + b))))

-- and it is one of them
pub most_is_one_of_them : (n : ℕ) (f : ℕ → ℕ) → 1 ≤ n → (i : ℕ) × (i < n) × (most n f ≡ f i)
unfolding most
most_is_one_of_them zero f some = absurd (omega arith)
most_is_one_of_them (suc zero) f some = (0, omega arith, omega (arith, larger_right 0 (f 0), larger_below 0 (f 0) (f 0) (omega arith) (omega arith)))
most_is_one_of_them (suc (suc n)) f some = elim (dec_le (f (suc n)) (most (suc n) f)) [
  | yes h ↦ let before = most_is_one_of_them (suc n) f (omega arith) in (before.0, omega (arith, before.1), rw (le-leb (f (suc n)) (most (suc n) f) h) before.2)
  | no h ↦ let l : most (suc n) f < f (suc n) = omega arith in (suc n, omega arith, rw (lt-leb (f (suc n)) (most (suc n) f) l))
]

pub most_none : (f : ℕ → ℕ) → 0 ≡ most 0 f
unfolding most
most_none f = refl

-- a source of length l fills its bytes; what of that holds for the bounds
pub source_full : (l : ℕ) → source_bits l ≡ 8 * source_bytes l
source_full l = refl

pub source_fits : (l : ℕ) → source_bits l ≤ 8 * source_bytes l
source_fits l = omega arith

pub source_bits_high : (l : ℕ) → l ≤ max_length → source_bits l ≤ max_bits
source_bits_high l h = omega arith

pub source_bytes_high : (l : ℕ) → l ≤ max_length → source_bytes l ≤ max_bytes
source_bytes_high l h = omega arith

pub source_bytes_low : (l : ℕ) → 1 ≤ l → 1 ≤ source_bytes l
source_bytes_low l h = omega arith

module _ (D : Desk) where
  open D use {k, m, bits, bytes, shift}

  -- every shift of a parity is within its reach, which is below what each of them is below, and one of them
  pub within_reach : (a b : ℕ) → b < k → shift a b ≤ reach D a
  unfolding reach
  within_reach a b lb = most_above k (shift a) b lb

  pub reach_below : (a z : ℕ) → ((b : ℕ) → b < k → shift a b ≤ z) → reach D a ≤ z
  unfolding reach
  reach_below a z h = most_below k (shift a) z h

  pub reach_is_an_entry : (a : ℕ) → 1 ≤ k → (b : ℕ) × (b < k) × (reach D a ≡ shift a b)
  unfolding reach
  reach_is_an_entry a some = most_is_one_of_them k (shift a) some

  -- the bits and bytes of a source and of a parity
  pub source_packet_bits : (i : ℕ) → i < k → bits ≡ packet_bits D i
  unfolding packet_bits
  source_packet_bits i h = rw (lt-ltb i k h)

  pub parity_packet_bits : (a : ℕ) → bits + reach D a ≡ packet_bits D (k + a)
  unfolding packet_bits
  parity_packet_bits a = let h : k ≤ k + a = omega arith in rw (le-ltb (k + a) k h, add-sub_cancel_left k a)

  pub source_packet_bytes : (i : ℕ) → i < k → bytes ≡ packet_bytes D i
  unfolding packet_bytes
  source_packet_bytes i h = rw (lt-ltb i k h)

  pub parity_packet_bytes : (i : ℕ) → k ≤ i → bytes_for (packet_bits D i) ≡ packet_bytes D i
  unfolding packet_bytes
  parity_packet_bytes i h = rw (le-ltb i k h)

  -- one packet more
  pub place_none : (on : ℕ → Bool) → 0 ≡ place_of D on 0
  unfolding place_of sum
  place_none on = refl

  pub place_on : (on : ℕ → Bool) (i : ℕ) → on i ≡ true → place_of D on i + packet_bytes D i ≡ place_of D on (i + 1)
  unfolding place_of sum
  place_on on i e = rw (add-one, e)

  pub place_off : (on : ℕ → Bool) (i : ℕ) → on i ≡ false → place_of D on i ≡ place_of D on (i + 1)
  unfolding place_of sum
  place_off on i e = rw (add-one, e) (omega arith)

  -- packets that are off take no room
  pub place_skip : (on : ℕ → Bool) (i n : ℕ) → ((j : ℕ) → j < n → on (i + j) ≡ false) → place_of D on i ≡ place_of D on (i + n)
  place_skip on i zero h = ap (place_of D on) (sym (add-zero i))
  place_skip on i (suc n) h =
      place_skip on i n (λ j l. h j (omega arith)) ∙ place_off on (i + n) (h n (omega arith)) ∙ ap (place_of D on) (omega arith)

  -- from one packet that is present to the next no packet stands
  pub place_next : (marks i n r : ℕ) → NextMark true marks i n r → place_of D (mark marks) i ≡ place_of D (mark marks) r
  place_next marks i n r N =
      let e : i + (r - i) ≡ r = omega (arith, N.from) in
      place_skip (mark marks) i (r - i) (λ j l. N.passed (i + j) (omega arith) (omega arith)) ∙ ap (place_of D (mark marks)) e

  -- packets further on stand no lower, and a packet that is on ends within those that are on
  pub place_grows : (on : ℕ → Bool) (i n : ℕ) → i ≤ n → place_of D on i ≤ place_of D on n
  unfolding place_of
  place_grows on i n h = sum_grows _ i n h

  pub place_ends : (on : ℕ → Bool) (i n : ℕ) → i < n → on i ≡ true → place_of D on i + packet_bytes D i ≤ place_of D on n
  place_ends on i n h e = omega (arith, place_on on i e, place_grows on (i + 1) n (omega arith))

  -- before a source stand only sources
  pub place-among-sources : (on : ℕ → Bool) (i : ℕ) → i ≤ k → count i on * bytes ≡ place_of D on i
  unfolding place_of
  place-among-sources on i h =
      mul_comm _ _
      ∙ sym (sum_each bytes i on)
      ∙ sum_same i _ _ (λ j l. ap (λ n. cond (on j) n 0) (source_packet_bytes j (omega arith)))

  -- before the first parity no parity has room
  pub parities_from : 0 ≡ place_of D (leb k) (k + 0)
  parities_from = place_none (leb k) ∙ place_skip (leb k) 0 k (λ j l. lt-leb k (0 + j) (omega arith)) ∙ ap (place_of D (leb k)) (omega arith)

  pub parities_more : (a : ℕ) → place_of D (leb k) (k + a) + packet_bytes D (k + a) ≡ place_of D (leb k) (k + (a + 1))
  parities_more a = place_on (leb k) (k + a) (le-leb k (k + a) (omega arith)) ∙ ap (place_of D (leb k)) (omega arith)
