-- Laws of bits: of numbers, of lists of bytes, and of a list as one number.
use mathlib.Core.Path.{◌≡◌, refl, sym, ap, ap₂, ◌∙◌}
use mathlib.Core.Logic.{◌⊎◌, inl, inr, ⊎_elim}
use mathlib.Core.Bool.{true, false}
use mathlib.Core.List.{List, [], ◌∷◌, ◌++◌}
use Prim.Native.Nat.{ℕ, zero, suc, ◌+◌, ◌-◌, ◌*◌, ◌/◌, ◌%◌, ◌^◌, ◌≤◌, ◌<◌}
use native.Mathlib.Nat.{add-sub_of_le, mul_assoc, zero-add, zero-mul, zero-div, div-eq_of_lt, lt_of_lt_of_le, le_of_lt, le_trans, le_of_suc-le-suc, not-suc-le-zero}
use native.Mathlib.Numerals.{add-one}
use native.Mathlib.Omega.{arith}
use native.Mathlib.Decide.{dec_lt}
use lib.Arith.{bin_ind}
use lib.Dec.{lit<}
use lib.Bits.{bit_xor, bit_and, and_mask, xor_shr, xor_mod, xor_shifted, xor_zero_r, shifted_even}
use lib.Pow.{pow_pos, pow-add, pow_mono, shl-shr, shr-shr, field, mod-mod-pow, shl_lt, shl_exact, high, low}
use lib.ListN.{length, get_or, set, take, drop, replicate, length-take, get_or-eq_default}
use lib.Seq.{get_or-set_same, get_or-set_other, get_or-take, get_or-drop, ext_get_or, drop-cons, drop-length, take-length, paste-suc}
use Rattle.bits.specs.Sums.{one_at}
use Rattle.bits.specs.Bits.{bit, bit_at, num, Bytes, ClearFrom, Tells, xor_of}
use Rattle.bits.proofs.SumLaws.{one_at_same, one_at_other}

pub lt_or_ge : (a b : ℕ) → (a < b) ⊎ (b ≤ a)
lt_or_ge a b = elim (dec_lt a b) [ yes h ↦ inl h | no n ↦ inr (omega arith) ]

pub bit_lt : (x j : ℕ) → bit x j < 2
unfolding bit
bit_lt x j = omega arith

-- xor of single bits is the sum modulo 2
xor_two : (x y : ℕ) → x < 2 → y < 2 → bit_xor x y ≡ (x + y) % 2
xor_two zero zero hx hy = refl
xor_two zero (suc zero) hx hy = refl
xor_two zero (suc (suc y)) hx hy = absurd (omega arith)
xor_two (suc zero) zero hx hy = refl
xor_two (suc zero) (suc zero) hx hy = refl
xor_two (suc zero) (suc (suc y)) hx hy = absurd (omega arith)
xor_two (suc (suc x)) y hx hy = absurd (omega arith)

pub bit-xor : (a b j : ℕ) → bit (bit_xor a b) j ≡ (bit a j + bit b j) % 2
unfolding bit
bit-xor a b j =
    ap (λ (x : ℕ). x % 2) (xor_shr a b j) ∙ xor_mod (a / 2 ^ j) (b / 2 ^ j) 1
    ∙ xor_two (a / 2 ^ j % 2) (b / 2 ^ j % 2) (omega arith) (omega arith)

pub bit_zero : (j : ℕ) → bit 0 j ≡ 0
unfolding bit
bit_zero j = ap (λ (x : ℕ). x % 2) (zero-div (2 ^ j))

pub bit_shr : (x s j : ℕ) → bit (x / 2 ^ s) j ≡ bit x (s + j)
unfolding bit
bit_shr x s j = ap (λ (y : ℕ). y % 2) (shr-shr x s j)

-- bit e + j of x shifted up by e
pub bit_shl : (x e j : ℕ) → bit (x * 2 ^ e) (e + j) ≡ bit x j
bit_shl x e j = sym (bit_shr (x * 2 ^ e) e j) ∙ ap (λ (y : ℕ). bit y j) (shl-shr x e)

pub bit_low : (x : ℕ) → bit x 0 ≡ x % 2
unfolding bit
bit_low x = omega arith

-- x shifted up by e has no bit below e
pub bit_shl_low : (x e j : ℕ) → j < e → bit (x * 2 ^ e) j ≡ 0
bit_shl_low x e j h =
    let d = e - suc j in
    let p : e ≡ suc d + j = omega arith in
    let q : j ≡ j + 0 = omega arith in
    ap₂ (λ (k i : ℕ). bit (x * 2 ^ k) i) p q
    ∙ ap (λ (y : ℕ). bit y (j + 0)) (ap (λ (y : ℕ). x * y) (pow-add 2 (suc d) j) ∙ sym (mul_assoc x (2 ^ suc d) (2 ^ j)))
    ∙ bit_shl (x * 2 ^ suc d) j 0
    ∙ bit_low (x * 2 ^ suc d) ∙ shifted_even x d

-- the low k bits
pub bit_mod : (x k j : ℕ) → j < k → bit (x % 2 ^ k) j ≡ bit x j
unfolding bit
bit_mod x k j h =
    let d = k - suc j in
    let p : k ≡ (d + 1) + j = omega arith in
    ap (λ (i : ℕ). x % 2 ^ i / 2 ^ j % 2) p
    ∙ ap (λ (y : ℕ). y % 2) (field x (d + 1) j)
    ∙ mod-mod-pow (x / 2 ^ j) d 1

-- no bit above the number
pub bit_high : (x k j : ℕ) → x < 2 ^ k → k ≤ j → bit x j ≡ 0
unfolding bit
bit_high x k j h l = ap (λ (y : ℕ). y % 2) (div-eq_of_lt (lt_of_lt_of_le h (pow_mono l)))

pub bit_half : (x j : ℕ) → bit (x / 2) j ≡ bit x (suc j)
bit_half x j = bit_shr x 1 j ∙ ap (bit x) (omega arith)

-- a number with no bit set is 0
pub zero_ext : (b : ℕ) → ((j : ℕ) → bit b j ≡ 0) → b ≡ 0
zero_ext =
    bin_ind (λ (n : ℕ). ((j : ℕ) → bit n j ≡ 0) → n ≡ 0) (λ h. refl)
    (λ n ih h. omega (arith, ih (λ j. bit_half n j ∙ h (suc j)), bit_low n, h 0))

-- two numbers with the same bits are equal
pub bit_ext : (a b : ℕ) → ((j : ℕ) → bit a j ≡ bit b j) → a ≡ b
bit_ext =
    bin_ind (λ (a : ℕ). (b : ℕ) → ((j : ℕ) → bit a j ≡ bit b j) → a ≡ b)
    (λ b h. sym (zero_ext b (λ j. sym (h j) ∙ bit_zero j)))
    (λ a ih b h. omega (arith, ih (b / 2) (λ j. bit_half a j ∙ h (suc j) ∙ sym (bit_half b j)), bit_low a, bit_low b, h 0))

pub xor_assoc : (a b c : ℕ) → bit_xor (bit_xor a b) c ≡ bit_xor a (bit_xor b c)
xor_assoc a b c = bit_ext _ _ (λ j. simp bit-xor (omega arith))

-- a number below 2 ^ k beside one shifted up by k: their bits add up
pub bit_beside : (a k b p : ℕ) → b < 2 ^ k → bit (a * 2 ^ k + b) p ≡ (bit (a * 2 ^ k) p + bit b p) % 2
bit_beside a k b p h = ap (λ (x : ℕ). bit x p) (sym (xor_shifted a k b h)) ∙ bit-xor (a * 2 ^ k) b p

pub bit_zero_shl : (e p : ℕ) → bit (0 * 2 ^ e) p ≡ 0
bit_zero_shl e p = ap (λ (x : ℕ). bit x p) (zero-mul (2 ^ e)) ∙ bit_zero p

-- 1, shifted up by p, has one bit
pub bit_one : (p q : ℕ) → bit (1 * 2 ^ p) q ≡ one_at p q
bit_one p q = ⊎_elim below (λ g. ⊎_elim above (here g) (lt_or_ge p q)) (lt_or_ge q p)
  where
    below : q < p → bit (1 * 2 ^ p) q ≡ one_at p q
    below l = bit_shl_low 1 p q l ∙ sym (one_at_other p q (omega arith))

    above : p < q → bit (1 * 2 ^ p) q ≡ one_at p q
    above l =
        ap (bit (1 * 2 ^ p)) (sym (add-sub_of_le (le_of_lt l))) ∙ bit_shl 1 p (q - p) ∙ bit_high 1 1 (q - p) (lit< tt) (omega arith)
        ∙ sym (one_at_other p q (omega arith))

    here : p ≤ q → q ≤ p → bit (1 * 2 ^ p) q ≡ one_at p q
    here a b =
        let e : q ≡ p + 0 = omega arith in
        ap (bit (1 * 2 ^ p)) e ∙ bit_shl 1 p 0 ∙ bit_low 1 ∙ sym (one_at_same p q (omega arith))

-- and so has a digit
bit-digit : (v p q : ℕ) → v < 2 → bit (v * 2 ^ p) q ≡ v * one_at p q
bit-digit zero p q l = bit_zero_shl p q ∙ omega arith
bit-digit (suc zero) p q l = bit_one p q ∙ omega arith
bit-digit (suc (suc v)) p q l = absurd (omega arith)

-- masks as code writes them
pub and_one : (n : ℕ) → bit_and n 1 ≡ n % 2
and_one n = and_mask n 1

-- bytes with the same bits are the same
pub byte_ext : (a b : ℕ) → a < 2 ^ 8 → b < 2 ^ 8 → ((j : ℕ) → j < 8 → bit a j ≡ bit b j) → a ≡ b
byte_ext a b ha hb h = bit_ext a b (λ j. ⊎_elim (h j) (λ g. bit_high a 8 j ha g ∙ sym (bit_high b 8 j hb g)) (lt_or_ge j 8))

-- ---- lists of bytes

pub bit_at_lt : (xs : List ℕ) (p : ℕ) → bit_at xs p < 2
unfolding bit_at
bit_at_lt xs p = bit_lt (get_or xs (p / 8) 0) (p % 8)

-- nothing stands past the end
pub bit_at_past : (xs : List ℕ) (p : ℕ) → 8 * length xs ≤ p → bit_at xs p ≡ 0
unfolding bit_at
bit_at_past xs p h = ap (λ (x : ℕ). bit x (p % 8)) (get_or-eq_default xs 0 {n = p / 8} (omega arith)) ∙ bit_zero (p % 8)

pub bit_at-at : (xs : List ℕ) (k j : ℕ) → j < 8 → bit_at xs (8 * k + j) ≡ bit (get_or xs k 0) j
unfolding bit_at
bit_at-at xs k j l =
    let e₀ : (8 * k + j) / 8 ≡ k = omega arith in
    let e₁ : (8 * k + j) % 8 ≡ j = omega arith in
    ap₂ (λ (a b : ℕ). bit (get_or xs a 0) b) e₀ e₁

pub bit_at-take : (xs : List ℕ) (n p : ℕ) → p < 8 * n → bit_at (take n xs) p ≡ bit_at xs p
unfolding bit_at
bit_at-take xs n p h = ap (λ (x : ℕ). bit x (p % 8)) (get_or-take n xs (p / 8) 0 (omega arith))

pub bit_at-drop : (xs : List ℕ) (n p : ℕ) → bit_at (drop n xs) p ≡ bit_at xs (8 * n + p)
unfolding bit_at
bit_at-drop xs n p =
    let e₀ : n + p / 8 ≡ (8 * n + p) / 8 = omega arith in
    let e₁ : p % 8 ≡ (8 * n + p) % 8 = omega arith in
    ap (λ (x : ℕ). bit x (p % 8)) (get_or-drop n xs (p / 8) 0) ∙ ap₂ (λ (i j : ℕ). bit (get_or xs i 0) j) e₀ e₁

pub get_or-zeros : (n k : ℕ) → get_or {A = ℕ} (replicate n 0) k 0 ≡ 0
get_or-zeros zero k = refl
get_or-zeros (suc n) zero = refl
get_or-zeros (suc n) (suc k) = get_or-zeros n k

pub bytes_take : (xs : List ℕ) → Bytes xs → (i : ℕ) → Bytes (take i xs)
bytes_take xs h i k =
    ⊎_elim (λ l. rw (get_or-take i xs k 0 l) (h k)) (λ (g : i ≤ k). rw (get_or-eq_default (take i xs) 0 {n = k} (simp length-take (omega arith))) (lit< tt)) (lt_or_ge k i)

pub bytes_drop : (xs : List ℕ) → Bytes xs → (n : ℕ) → Bytes (drop n xs)
bytes_drop xs h n i = rw (get_or-drop n xs i 0) (h (n + i))

-- two lists of bytes with the same bits are equal
pub bytes_ext : (xs ys : List ℕ) → Bytes xs → Bytes ys → length xs ≡ length ys → ((p : ℕ) → bit_at xs p ≡ bit_at ys p) → xs ≡ ys
bytes_ext xs ys hx hy l h =
    ext_get_or 0 xs ys l (λ i _. byte_ext (get_or xs i 0) (get_or ys i 0) (hx i) (hy i) (λ j g. sym (bit_at-at xs i j g) ∙ h (8 * i + j) ∙ bit_at-at ys i j g))

-- a byte v at place k
bit_byte_low : (v k p : ℕ) → p / 8 < k → bit (v * 2 ^ (8 * k)) p ≡ 0
bit_byte_low v k p l = bit_shl_low v (8 * k) p (omega arith)

bit_byte_here : (v p : ℕ) → bit (v * 2 ^ (8 * (p / 8))) p ≡ bit v (p % 8)
bit_byte_here v p =
    let e : p ≡ 8 * (p / 8) + p % 8 = omega arith in
    ap (bit (v * 2 ^ (8 * (p / 8)))) e ∙ bit_shl v (8 * (p / 8)) (p % 8)

bit_byte_high : (v k p : ℕ) → v < 2 ^ 8 → k < p / 8 → bit (v * 2 ^ (8 * k)) p ≡ 0
bit_byte_high v k p h l =
    let j = p - 8 * k in
    let e : p ≡ 8 * k + j = omega arith in
    ap (bit (v * 2 ^ (8 * k))) e ∙ bit_shl v (8 * k) j ∙ bit_high v 8 j h (omega arith)

-- a byte xored into place k adds its bits there
pub bit_at_xor : (xs : List ℕ) (k v p : ℕ) → k < length xs → v < 2 ^ 8
    → bit_at (set xs k (bit_xor (get_or xs k 0) v)) p ≡ (bit_at xs p + bit (v * 2 ^ (8 * k)) p) % 2
unfolding bit_at
bit_at_xor xs k v p l h = ⊎_elim under (λ g. ⊎_elim over (same g) (lt_or_ge k (p / 8))) (lt_or_ge (p / 8) k)
  where
    G : Type 0
    G = bit_at (set xs k (bit_xor (get_or xs k 0) v)) p ≡ (bit_at xs p + bit (v * 2 ^ (8 * k)) p) % 2

    under : p / 8 < k → G
    under m = rw (get_or-set_other xs k (p / 8) (bit_xor (get_or xs k 0) v) 0 (omega arith), bit_byte_low v k p m) (omega (arith, bit_lt (get_or xs (p / 8) 0) (p % 8)))

    over : k < p / 8 → G
    over m = rw (get_or-set_other xs k (p / 8) (bit_xor (get_or xs k 0) v) 0 (omega arith), bit_byte_high v k p h m) (omega (arith, bit_lt (get_or xs (p / 8) 0) (p % 8)))

    same : k ≤ p / 8 → p / 8 ≤ k → G
    same g m =
        let e : k ≡ p / 8 = omega arith in
        let l₁ : p / 8 < length xs = omega arith in
        rw e (rw (get_or-set_same xs (p / 8) (bit_xor (get_or xs (p / 8) 0) v) 0 l₁, bit_byte_here v p) (bit-xor (get_or xs (p / 8) 0) v (p % 8)))

-- a byte stored where 0 stood does the same
pub bit_at-put : (xs : List ℕ) (k v p : ℕ) → k < length xs → v < 2 ^ 8 → get_or xs k 0 ≡ 0
    → bit_at (set xs k v) p ≡ (bit_at xs p + bit (v * 2 ^ (8 * k)) p) % 2
bit_at-put xs k v p l h z = ap (λ (x : ℕ). bit_at (set xs k (bit_xor x v)) p) (sym z) ∙ bit_at_xor xs k v p l h

-- the byte v << (p % 8), xored into byte p / 8, where v is 0 or 1
pub bit_at_flip : (xs : List ℕ) (p v : ℕ) → p < 8 * length xs → v < 2 → (q : ℕ)
    → bit_at (set xs (p / 8) (bit_xor (get_or xs (p / 8) 0) (v * 2 ^ (p % 8) % 2 ^ 8))) q ≡ (bit_at xs q + v * one_at p q) % 2
bit_at_flip xs p v h lv q =
    let e : p ≡ p % 8 + 8 * (p / 8) = omega arith in
    let powers : 2 ^ (p % 8) * 2 ^ (8 * (p / 8)) ≡ 2 ^ p = sym (pow-add 2 (p % 8) (8 * (p / 8))) ∙ ap (λ (x : ℕ). 2 ^ x) (sym e) in
    let there : v * 2 ^ (p % 8) * 2 ^ (8 * (p / 8)) ≡ v * 2 ^ p = mul_assoc v (2 ^ (p % 8)) (2 ^ (8 * (p / 8))) ∙ ap (λ (x : ℕ). v * x) powers in
    rw (shl_exact 1 (p % 8) 8 lv (omega arith))
    (bit_at_xor xs (p / 8) (v * 2 ^ (p % 8)) q (omega arith) (lt_of_lt_of_le (shl_lt 1 (p % 8) lv) (pow_mono {i = 1 + p % 8} {j = 8} (omega arith)))
    ∙ ap (λ (x : ℕ). (bit_at xs q + x) % 2) (ap (λ (x : ℕ). bit x q) there ∙ bit-digit v p q lv))

-- ---- a list that is clear from a bit on, copied to, or summed

pub clear_from : (xs : List ℕ) (n i : ℕ) → get_or xs (n / 8) 0 / 2 ^ (n % 8) ≡ 0 → ((k : ℕ) → n / 8 < k → k < i → get_or xs k 0 ≡ 0) → length xs ≤ i → ClearFrom xs n
unfolding bit_at
clear_from xs n i f g l p h = ⊎_elim later here (lt_or_ge (n / 8) (p / 8))
  where
    zero_byte : get_or xs (p / 8) 0 ≡ 0 → bit_at xs p ≡ 0
    zero_byte z = ap (λ (x : ℕ). bit x (p % 8)) z ∙ bit_zero (p % 8)

    later : n / 8 < p / 8 → bit_at xs p ≡ 0
    later a = ⊎_elim (λ b. zero_byte (g (p / 8) a b)) (λ b. zero_byte (get_or-eq_default xs 0 (le_trans l b))) (lt_or_ge (p / 8) i)

    here : p / 8 ≤ n / 8 → bit_at xs p ≡ 0
    here a =
        let e : p / 8 ≡ n / 8 = omega arith in
        let d = p % 8 - n % 8 in
        let e₁ : p % 8 ≡ n % 8 + d = omega arith in
        ap₂ (λ (k j : ℕ). bit (get_or xs k 0) j) e e₁ ∙ sym (bit_shr (get_or xs (n / 8) 0) (n % 8) d) ∙ ap (λ (x : ℕ). bit x d) f ∙ bit_zero d

pub clear_first : (xs : List ℕ) (n : ℕ) → get_or xs (n / 8) 0 < 2 ^ 8 → ClearFrom xs n → get_or xs (n / 8) 0 / 2 ^ (n % 8) ≡ 0
clear_first xs n h cl =
    zero_ext (get_or xs (n / 8) 0 / 2 ^ (n % 8)) (λ j. bit_shr (get_or xs (n / 8) 0) (n % 8) j
    ∙ ⊎_elim (λ a. sym (bit_at-at xs (n / 8) (n % 8 + j) a) ∙ cl (8 * (n / 8) + (n % 8 + j)) (omega arith)) (bit_high (get_or xs (n / 8) 0) 8 (n % 8 + j) h) (lt_or_ge (n % 8 + j) 8))

pub clear_later : (xs : List ℕ) (n k : ℕ) → get_or xs k 0 < 2 ^ 8 → n / 8 < k → ClearFrom xs n → get_or xs k 0 ≡ 0
clear_later xs n k h l cl =
    byte_ext (get_or xs k 0) 0 h (lit< tt) (λ j a. sym (bit_at-at xs k j a) ∙ cl (8 * k + j) (omega arith) ∙ sym (bit_zero j))

-- one element more of s at the front of d
pub front_more : (s d : List ℕ) (i : ℕ) → i < length s → i < length d → set (take i s ++ drop i d) i (get_or s i 0) ≡ take (i + 1) s ++ drop (i + 1) d
front_more s d i ls ld = rw add-one (simp zero-add at (paste-suc d 0 s i 0 (omega arith) ls))

-- all of s is at the front of d
pub front-all : (s d : List ℕ) (i : ℕ) → i ≡ length s → take i s ++ drop i d ≡ s ++ drop (length s) d
front-all s d i e = rw (e, take-length)

-- one byte more is taken in
pub xor_of_more : (x : ℕ) (xs : List ℕ) (i : ℕ) → i < length xs → bit_xor (bit_xor x (get_or xs i 0)) (xor_of (drop (i + 1) xs)) ≡ bit_xor x (xor_of (drop i xs))
unfolding xor_of
xor_of_more x xs i l = rw (add-one, drop-cons xs i 0 l, xor_assoc)

-- no byte is left
pub xor_of_end : (x : ℕ) (xs : List ℕ) (i : ℕ) → i ≡ length xs → bit_xor x (xor_of (drop i xs)) ≡ x
unfolding xor_of
xor_of_end x xs i e = rw (e, drop-length) (xor_zero_r x)

-- ---- tests

pub tells_so : {P : Type 0} → P → Tells true P
tells_so p = record { so = λ _. p; not_so = λ e _. let z : ◌≡◌ {A = ℕ} 0 1 = cc in omega arith }

pub tells_not : {P : Type 0} → (P → ⊥) → Tells false P
tells_not n = record { so = λ e. let z : ◌≡◌ {A = ℕ} 0 1 = cc in absurd (omega arith); not_so = λ _ p. n p }

-- ---- a list as one number

-- the bits of the first byte, and the others
num_here : (x n p : ℕ) → x < 2 ^ 8 → p < 8 → bit (n * 2 ^ 8 + x) p ≡ bit x p
num_here x n p h l = sym (bit_mod (n * 2 ^ 8 + x) 8 p l) ∙ ap (λ (y : ℕ). bit y p) (low n 8 h)

num_there : (x n p : ℕ) → x < 2 ^ 8 → bit (n * 2 ^ 8 + x) (8 + p) ≡ bit n p
num_there x n p h = sym (bit_shr (n * 2 ^ 8 + x) 8 p) ∙ ap (λ (y : ℕ). bit y p) (high n 8 h)

pub bit-num : (xs : List ℕ) → Bytes xs → (p : ℕ) → bit (num xs) p ≡ bit_at xs p
unfolding num bit_at
bit-num [] h p = bit_zero p ∙ sym (bit_zero (p % 8))
bit-num (x ∷ xs) h p = ⊎_elim here (there (bit-num xs (λ i. h (suc i)))) (lt_or_ge p 8)
  where
    here : p < 8 → bit (num (x ∷ xs)) p ≡ bit_at (x ∷ xs) p
    here l =
        let e₀ : 0 ≡ p / 8 = omega arith in
        let e₁ : p ≡ p % 8 = omega arith in
        num_here x (num xs) p (h 0) l ∙ ap₂ (λ (i j : ℕ). bit (get_or (x ∷ xs) i 0) j) e₀ e₁

    there : ((q : ℕ) → bit (num xs) q ≡ bit_at xs q) → 8 ≤ p → bit (num (x ∷ xs)) p ≡ bit_at (x ∷ xs) p
    there ih l =
        let q = p - 8 in
        let e : p ≡ 8 + q = omega arith in
        let e₀ : suc (q / 8) ≡ p / 8 = omega arith in
        let e₁ : q % 8 ≡ p % 8 = omega arith in
        ap (bit (num (x ∷ xs))) e ∙ num_there x (num xs) q (h 0) ∙ ih q
        ∙ ap₂ (λ (i j : ℕ). bit (get_or (x ∷ xs) i 0) j) e₀ e₁

-- a list's first i + 1 bytes
pub num-take_suc : (xs : List ℕ) (i : ℕ) → i < length xs → num (take (suc i) xs) ≡ get_or xs i 0 * 2 ^ (8 * i) + num (take i xs)
unfolding num
num-take_suc [] i l = absurd (not-suc-le-zero l)
num-take_suc (x ∷ xs) zero l = omega arith
num-take_suc (x ∷ xs) (suc i) l =
    let e : 8 * suc i ≡ 8 * i + 8 = omega arith in
    omega (arith, num-take_suc xs i (le_of_suc-le-suc l), ap (λ (k : ℕ). get_or xs i 0 * 2 ^ k) e, ap (λ (y : ℕ). get_or xs i 0 * y) (pow-add 2 (8 * i) 8))

pub num-take_lt : (xs : List ℕ) → Bytes xs → (i : ℕ) → num (take i xs) < 2 ^ (8 * i)
unfolding num
num-take_lt xs h zero = lit< tt
num-take_lt [] h (suc i) = pow_pos (8 * suc i)
num-take_lt (x ∷ xs) h (suc i) =
    let e : 8 * suc i ≡ 8 * i + 8 = omega arith in
    omega (arith, num-take_lt xs (λ j. h (suc j)) i, h 0, ap (λ (k : ℕ). 2 ^ k) e, pow-add 2 (8 * i) 8)
