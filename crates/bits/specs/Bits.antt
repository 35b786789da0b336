-- Bits of numbers and of lists of bytes, as the numbers 0 and 1; sums of bits are taken modulo 2.
use Rattle.std.specs.Prelude.{ℕ, zero, suc, ◌+◌, ◌-◌, ◌*◌, ◌/◌, ◌%◌, ◌^◌, ◌<◌, ◌≤◌, List, [], ◌∷◌, ◌++◌, Bool, true, false, cond, ◌≡◌, get_or, take, drop, ltb}
use Rattle.std.specs.Int.Bits.{bit_xor}
use Rattle.bits.specs.Sums.{pick}

-- bit j of the number x
unfoldable pub bit : ℕ → ℕ → ℕ
bit x j = x / 2 ^ j % 2

-- bit p of a list of bytes: bit p mod 8 of byte p div 8, lowest bit first; 0 past the end
unfoldable pub bit_at : List ℕ → ℕ → ℕ
bit_at xs p = bit (get_or xs (p / 8) 0) (p % 8)

-- each element is a byte
abbrev pub Bytes : List ℕ → Type 0
Bytes xs = (i : ℕ) → get_or xs i 0 < 2 ^ 8

-- bit p of what has the bits f, shifted up by e
unfoldable pub up : ℕ → (ℕ → ℕ) → ℕ → ℕ
up e f p = cond (ltb p e) 0 (f (p - e))

-- no bit at n or above is set
abbrev pub ClearFrom : List ℕ → ℕ → Type 0
ClearFrom xs n = (p : ℕ) → n ≤ p → bit_at xs p ≡ 0

-- no bit is set
abbrev pub Noughts : List ℕ → Type 0
Noughts xs = (p : ℕ) → bit_at xs p ≡ 0

-- r tells whether P holds
pub record Tells (r : Bool) (P : Type 0) : Type 0 where
  pub so : r ≡ true → P
  pub not_so : r ≡ false → P → ⊥

-- the n bytes from byte a on
abbrev pub slice : List ℕ → ℕ → ℕ → List ℕ
slice xs a n = take n (drop a xs)

-- the b-th part of n bytes, b from 0
abbrev pub part : List ℕ → ℕ → ℕ → List ℕ
part xs n b = slice xs (b * n) n

-- the XOR of all bytes
unfoldable pub xor_of : List ℕ → ℕ
xor_of [] = 0
xor_of (x ∷ xs) = bit_xor x (xor_of xs)

-- the number whose first n bits are f's
unfoldable pub from_bits : ℕ → (ℕ → ℕ) → ℕ
from_bits zero f = 0
from_bits (suc n) f = f 0 + 2 * from_bits n (λ j. f (suc j))

-- n bytes whose bits are f's
unfoldable pub bytes_of : ℕ → (ℕ → ℕ) → List ℕ
bytes_of zero f = []
bytes_of (suc n) f = from_bits 8 f ∷ bytes_of n (λ q. f (8 + q))

-- of the first n lists those that are on, one after another
unfoldable pub joined : (ℕ → Bool) → (ℕ → List ℕ) → ℕ → List ℕ
joined on f zero = []
joined on f (suc i) = joined on f i ++ pick (on i) (f i) []

-- the list as one number, its first byte the lowest
unfoldable pub num : List ℕ → ℕ
num [] = 0
num (x ∷ xs) = num xs * 2 ^ 8 + x
