-- Laws of bytes put into a list, one after another or some at once. Assumes nothing.
use Rattle.std.proofs.Common.{◌≡◌, ℕ, zero, suc, ◌+◌, ◌-◌, ◌*◌, ◌/◌, ◌%◌, ◌^◌, ◌<◌, ◌≤◌, ◌≢◌, List, length, set, sym, refl, ap, ◌∙◌, arith, lit<, length-set, get_or-set_other, get_or-set_same}
use Rattle.std.specs.Int.{w64, bytes_low_first, to_le_bytes, from_le_bytes}
use Rattle.std.proofs.lemmas.Nat.{from_le_bytes-to_le_bytes_8}
use Rattle.std.proofs.lemmas.Slice.{take-put_mid_below, between-put_mid, drop-put_mid}
use borrow.Rule.Slice.PartMut.{put_mid, mid_len, same_len_mid}
use native.Mathlib.Decide.{dec_lt}
use Rattle.bits.specs.Bits.{bit, bit_at, Bytes}
use Rattle.bits.proofs.BitLaws.{bit_mod, bit_shr, bit_at-at, bit_at-take, bit_at-drop}
use Rattle.bits.proofs.SliceLaws.{slice-bit}
use Rattle.rows.specs.Rows.{Stored}
use Rattle.rows.proofs.WordLaws.{bit-eight}

pub stored_none : (from : ℕ) (f : ℕ → ℕ) (xs : List ℕ) → Stored from 0 f xs xs
stored_none from f xs = record { size = refl; here = λ p l. absurd (omega arith); below = λ p l. refl; above = λ p l. refl }

set_other : (xs : List ℕ) (k v p : ℕ) → p / 8 ≢ k → bit_at (set xs k v) p ≡ bit_at xs p
unfolding bit_at
set_other xs k v p ne = ap (λ (x : ℕ). bit x (p % 8)) (get_or-set_other xs k (p / 8) v 0 ne)

-- one byte
stored_one : (xs : List ℕ) (k v : ℕ) → k < length xs → Stored k 1 (bit v) xs (set xs k v)
stored_one xs k v l = record {
  size = length-set xs k v;
  here = λ p m. bit_at-at (set xs k v) k p (omega arith) ∙ ap (λ (x : ℕ). bit x p) (get_or-set_same xs k v 0 l);
  below = λ p m. set_other xs k v p (omega arith);
  above = λ p m. set_other xs k v p (omega arith);
}

-- m bytes more behind n
pub stored_more : (from n m : ℕ) (f g : ℕ → ℕ) (xs ys zs : List ℕ) → Stored from n f xs ys → Stored (from + n) m g ys zs
    → ((p : ℕ) → p < 8 * m → g p ≡ f (8 * n + p)) → Stored from (n + m) f xs zs
stored_more from n m f g xs ys zs h k next = record {
  size = k.size ∙ h.size;
  here = λ p l. elim (dec_lt p (8 * n)) [
    | yes q ↦ k.below (8 * from + p) (omega arith) ∙ h.here p q
    | no q ↦
        let at : 8 * from + p ≡ 8 * (from + n) + (p - 8 * n) = omega arith in
        ap (bit_at zs) at ∙ k.here (p - 8 * n) (omega arith) ∙ next (p - 8 * n) (omega arith) ∙ ap f (omega arith)
  ];
  below = λ p l. k.below p (omega arith) ∙ h.below p l;
  above = λ p l. k.above p (omega arith) ∙ h.above p (omega arith);
}

same_bit : (xs ys : List ℕ) (p : ℕ) → xs ≡ ys → bit_at xs p ≡ bit_at ys p
same_bit xs ys p e = ap (λ (l : List ℕ). bit_at l p) e

-- n bytes ys, put in the place of those from byte `from` on
stored_part : (from n : ℕ) (f : ℕ → ℕ) (xs ys : List ℕ) → from + n ≤ length xs → length ys ≡ n → ((p : ℕ) → p < 8 * n → bit_at ys p ≡ f p)
    → Stored from n f xs (put_mid from (from + n - from) xs ys)
stored_part from n f xs ys l e h =
    let end = from + n in
    let k = end - from in
    let zs = put_mid from k xs ys in
    record {
      size = same_len_mid from k xs ys (omega (arith, mid_len from end xs l));
      here = λ p m. sym (slice-bit zs from k p (omega arith)) ∙ same_bit _ _ p (between-put_mid from k xs ys end (omega arith) (omega arith)) ∙ h p m;
      below = λ p m. sym (bit_at-take zs from p m) ∙ same_bit _ _ p (take-put_mid_below from k xs ys from (omega arith) (omega arith)) ∙ bit_at-take xs from p m;
      above = λ p m.
          let at : p ≡ 8 * end + (p - 8 * end) = omega arith in
          ap (bit_at zs) at ∙ sym (bit_at-drop zs end _) ∙ same_bit _ _ _ (drop-put_mid from k xs ys end (omega arith) (omega arith) (omega arith))
          ∙ bit_at-drop xs end _ ∙ ap (bit_at xs) (sym at);
    }

-- k bytes of x from byte i on are bytes
low_first_bytes : (i k x : ℕ) → Bytes (bytes_low_first i k x)
low_first_bytes i zero x j = lit< tt
low_first_bytes zero (suc k) x zero = omega arith
low_first_bytes (suc i) (suc k) x zero = omega arith
low_first_bytes i (suc k) x (suc j) = low_first_bytes (suc i) k x j

-- the eight bytes of x, put so, have its bits: read as a number they are x
pub stored_word : (from x : ℕ) (xs : List ℕ) → x < 2 ^ 64 → from + 8 ≤ length xs → Stored from 8 (bit x) xs (put_mid from (from + 8 - from) xs (to_le_bytes w64 x))
stored_word from x xs small l =
    let ys = to_le_bytes w64 x in
    let read : x ≡ from_le_bytes w64 ys = sym (from_le_bytes-to_le_bytes_8 x small) in
    stored_part from 8 (bit x) xs ys l refl (λ p m. sym (bit-eight ys (low_first_bytes 0 8 x) 0 x (lit< tt) (omega (arith, read)) p m ∙ ap (bit_at ys) (omega arith)))

-- byte n of x behind the n bytes below it
pub stored_byte : (from n x k v : ℕ) (xs ys : List ℕ) → from + n < length xs → k ≡ from + n → v ≡ x / 2 ^ (8 * n) % 2 ^ 8
    → Stored from n (bit x) xs ys → Stored from (n + 1) (bit x) xs (set ys k v)
stored_byte from n x k v xs ys l ek ev h =
    rw (ek, ev) (stored_more from n 1 (bit x) _ xs ys _ h (stored_one ys (from + n) _ (omega (arith, h.size))) (λ p m. bit_mod (x / 2 ^ (8 * n)) 8 p m ∙ bit_shr x (8 * n) p))
