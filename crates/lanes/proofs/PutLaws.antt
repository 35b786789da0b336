-- Laws of bytes put into a list: many over others, or one after another. Assumes nothing.
use mathlib.Core.Path.{◌≡◌, refl, sym, ap, ap₂, ◌∙◌, subst}
use mathlib.Core.List.{List, [], ◌++◌, append-nil}
use Prim.Native.Nat.{ℕ, ◌+◌, ◌-◌, ◌*◌, ◌/◌, ◌%◌, ◌^◌, ◌≤◌, ◌<◌}
use native.Mathlib.Omega.{arith}
use lib.ListN.{length, get_or, take, drop, set, length-append, length-drop, drop_of_length-le, get_or-append}
use lib.Seq.{take_all, drop-drop, get_or-append-add, length-take-le}
use Rattle.bits.specs.Bits.{bit, bit_at, slice}
use Rattle.bits.proofs.BitLaws.{bit_at-take, bit_at-drop}
use Rattle.rows.specs.Rows.{Stored}
use Rattle.rows.proofs.StoreLaws.{stored_none, stored_more, stored_byte}

-- belongs to bits
-- bits of two lists, one after the other
bit_at-append : (xs ys : List ℕ) (p : ℕ) → p < 8 * length xs → bit_at (xs ++ ys) p ≡ bit_at xs p
unfolding bit_at
bit_at-append xs ys p l = ap (λ (x : ℕ). bit x (p % 8)) (get_or-append xs ys 0 (p / 8) (omega arith))

bit_at-append_add : (xs ys : List ℕ) (n p : ℕ) → length xs ≡ n → bit_at (xs ++ ys) (8 * n + p) ≡ bit_at ys p
unfolding bit_at
bit_at-append_add xs ys n p e =
    let byte : (8 * n + p) / 8 ≡ length xs + p / 8 = omega arith in
    let place : (8 * n + p) % 8 ≡ p % 8 = omega arith in
    ap₂ (λ (i j : ℕ). bit (get_or (xs ++ ys) i 0) j) byte place ∙ ap (λ (x : ℕ). bit x (p % 8)) (get_or-append-add xs ys (p / 8) 0)

-- ---- belongs to rows

-- bytes between what stood before and behind them
stored_between : (xs src : List ℕ) (a : ℕ) → a + length src ≤ length xs → Stored a (length src) (bit_at src) xs (take a xs ++ (src ++ drop (a + length src) xs))
stored_between xs src a h =
    let n = length src in
    let rest = drop (a + n) xs in
    let lf : length (take a xs) ≡ a = length-take-le a xs (omega arith) in
    record {
      size = omega (arith, length-append (take a xs) (src ++ rest), length-append src rest, length-drop (a + n) xs, lf);
      here = λ p l. bit_at-append_add (take a xs) (src ++ rest) a p lf ∙ bit_at-append src rest p l;
      below = λ p l. bit_at-append (take a xs) (src ++ rest) p (omega (arith, lf)) ∙ bit_at-take xs a p l;
      above = λ p l.
          let r = p - 8 * (a + n) in
          let from_front : p ≡ 8 * a + (8 * n + r) = omega arith in
          let from-here : 8 * (a + n) + r ≡ p = omega arith in
          ap (bit_at (take a xs ++ (src ++ rest))) from_front ∙ bit_at-append_add (take a xs) (src ++ rest) a (8 * n + r) lf
          ∙ bit_at-append_add src rest n r refl ∙ bit_at-drop xs (a + n) r ∙ ap (bit_at xs) from-here;
    }

-- bytes put over the front of all that stands from byte a on, as code lends that part
pub stored_over : (xs src : List ℕ) (a : ℕ) → a + length src ≤ length xs
    → Stored a (length src) (bit_at src) xs (take a xs ++ ((src ++ drop (length src) (slice xs a (length xs - a))) ++ drop (length xs - a) (drop a xs)))
stored_over xs src a h =
    let d = drop a xs in
    let short : length d ≤ length xs - a = omega (arith, length-drop a xs) in
    let ends : drop (length xs - a) d ≡ [] = drop_of_length-le d short in
    let rest : drop (length src) (take (length xs - a) d) ≡ drop (a + length src) xs = ap (drop (length src)) (take_all (length xs - a) d short) ∙ drop-drop (length src) a xs in
    let same : (src ++ drop (a + length src) xs) ≡ (src ++ drop (length src) (take (length xs - a) d)) ++ drop (length xs - a) d =
    sym (ap₂ (λ (x y : List ℕ). (src ++ x) ++ y) rest ends ∙ append-nil (src ++ drop (a + length src) xs)) in
    subst (λ (ys : List ℕ). Stored a (length src) (bit_at src) xs (take a xs ++ ys)) same (stored_between xs src a h)

-- one byte more, whose bits are the next of f
pub stored_next : (from n v : ℕ) (f : ℕ → ℕ) (xs ys : List ℕ) → from + n < length xs → v < 2 ^ 8 → ((j : ℕ) → j < 8 → bit v j ≡ f (8 * n + j))
    → Stored from n f xs ys → Stored from (n + 1) f xs (set ys (from + n) v)
stored_next from n v f xs ys l small next S =
    let here = stored_byte (from + n) 0 v (from + n) v ys ys (omega (arith, S.size)) (omega arith) (omega arith) (stored_none (from + n) (bit v) ys) in
    stored_more from n 1 f (bit v) xs ys (set ys (from + n) v) S here (λ p lp. next p (omega arith))

-- what is stored, said of equal bits
pub stored_same : (from n : ℕ) (f g : ℕ → ℕ) (xs ys : List ℕ) → Stored from n f xs ys → ((p : ℕ) → p < 8 * n → f p ≡ g p) → Stored from n g xs ys
stored_same from n f g xs ys S same = record { size = S.size; here = λ p l. S.here p l ∙ same p l; below = S.below; above = S.above }
