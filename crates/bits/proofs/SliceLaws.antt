-- Laws of slices, and of parts of equal length.
use mathlib.Core.Path.{◌≡◌, ◌∙◌}
use mathlib.Core.List.{List}
use Prim.Native.Nat.{ℕ, ◌+◌, ◌-◌, ◌*◌, ◌≤◌, ◌<◌}
use native.Mathlib.Omega.{arith}
use native.Mathlib.Nat.{add-sub_cancel_left, mul-le-mul_right}
use lib.ListN.{length, take, drop, length-take, length-drop}
use Rattle.bits.specs.Bits.{bit_at, Bytes, slice, part}
use Rattle.bits.proofs.BitLaws.{bit_at_past, bit_at-take, bit_at-drop, bytes_take, bytes_drop}

-- a bit of a slice
pub slice-bit : (xs : List ℕ) (a n q : ℕ) → q < 8 * n → bit_at (slice xs a n) q ≡ bit_at xs (8 * a + q)
slice-bit xs a n q h = bit_at-take (drop a xs) n q h ∙ bit_at-drop xs a q

pub slice_past : (xs : List ℕ) (a n q : ℕ) → 8 * n ≤ q → bit_at (slice xs a n) q ≡ 0
slice_past xs a n q h =
    let short : length (slice xs a n) ≤ n = simp length-take (omega arith) in
    bit_at_past (slice xs a n) q (omega arith)

pub slice-length : (xs : List ℕ) (a n : ℕ) → a + n ≤ length xs → length (slice xs a n) ≡ n
slice-length xs a n h = simp (length-take, length-drop) (omega arith)

pub slice_bytes : (xs : List ℕ) (a n : ℕ) → Bytes xs → Bytes (slice xs a n)
slice_bytes xs a n h = bytes_take (drop a xs) (bytes_drop xs h a) n

-- a part as code takes it, from a * n to a * n + n
pub part_taken : (xs : List ℕ) (n a : ℕ) → take (a * n + n - a * n) (drop (a * n) xs) ≡ part xs n a
part_taken xs n a = rw (add-sub_cancel_left (a * n) n)

-- part b of k parts of n bytes is within what holds them
pub part_in : (b k n size : ℕ) → b < k → k * n ≤ size → b * n + n ≤ size
part_in b k n size l h = omega (arith, mul-le-mul_right n l)
