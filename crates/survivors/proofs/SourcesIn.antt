-- The sources in the rows as bytes, one after another. Assumes nothing.
use mathlib.Core.Path.{◌≡◌, refl, sym, ap, ◌∙◌}
use mathlib.Core.Bool.{Bool, true, false}
use mathlib.Core.List.{List, [], ◌∷◌, ◌++◌}
use Prim.Native.Nat.{ℕ, zero, suc, ◌+◌, ◌*◌, ◌/◌, ◌%◌, ◌<◌}
use native.Mathlib.Omega.{arith}
use native.Mathlib.Decide.{dec_lt}
use borrow.Author.Tests.{lt-ltb, le-ltb}
use lib.Dec.{lit<}
use lib.ListN.{length, replicate}
use Rattle.bits.specs.Sums.{pick, sum}
use Rattle.bits.specs.Bits.{bit, bit_at, Bytes, slice, part, bytes_of, joined}
use Rattle.bits.proofs.BitLaws.{bit_zero, get_or-zeros, bit_at_past, bytes_ext}
use Rattle.bits.proofs.SliceLaws.{slice-bit, slice_past, slice-length, slice_bytes, part_in}
use Rattle.bits.proofs.ByteLaws.{place, bytes_of-length, bytes_of_bytes, bytes_of-bit, joined_length, part-joined, joined_parts}
use Rattle.table.specs.Desk.{Desk, sources_bytes}
use Rattle.rows.specs.Rows.{row_bits, row_words, row_in}
use Rattle.rows.proofs.RowLaws.{row_lt}
use Rattle.code.specs.Code.{sources_of}
use Rattle.code.proofs.CodeLaws.{source_past}
use Rattle.survivors.specs.Remainders.{source_in, sources_in, InBytes}
use Rattle.survivors.proofs.RestLaws.{source_in_lem}

-- belongs to rows
-- rows of noughts have no bit set
pub no_rows : (n i p : ℕ) → row_in (replicate n 0) i p ≡ 0
unfolding row_in
no_rows n i p = elim (dec_lt p row_bits) [
  | yes l ↦ rw (lt-ltb p row_bits l) (ap (λ x. bit x (p % 64)) (get_or-zeros n (i * row_words + p / 64)) ∙ bit_zero (p % 64))
  | no l ↦ rw (le-ltb p row_bits (omega arith))
]

-- belongs to bits
-- bytes after bytes are bytes
bytes_append : (xs ys : List ℕ) → Bytes xs → Bytes ys → Bytes (xs ++ ys)
bytes_append [] ys hx hy i = hy i
bytes_append (x ∷ xs) ys hx hy zero = hx 0
bytes_append (x ∷ xs) ys hx hy (suc i) = bytes_append xs ys (λ j. hx (suc j)) hy i

joined_bytes : (on : ℕ → Bool) (f : ℕ → List ℕ) → ((i : ℕ) → Bytes (f i)) → (n : ℕ) → Bytes (joined on f n)
unfolding joined
joined_bytes on f h zero = λ i. lit< tt
joined_bytes on f h (suc n) = bytes_append (joined on f n) (pick (on n) (f n) []) (joined_bytes on f h n) (picked (on n))
  where
    picked : (v : Bool) → Bytes (pick v (f n) [])
    picked true = h n
    picked false = λ i. lit< tt

module _ (D : Desk) (rows : List ℕ) where
  open D use {k, bytes}

  -- source c as bytes
  abbrev source : ℕ → List ℕ
  source c = bytes_of bytes (row_in rows c)

  sized : (c : ℕ) → length (source c) ≡ bytes
  sized c = bytes_of-length bytes (row_in rows c)

  place_each : (c : ℕ) → place (λ _. true) (λ _. bytes) c ≡ c * bytes
  unfolding sum
  place_each zero = omega arith
  place_each (suc c) = omega (arith, place_each c)

  pub sources_in-length : length (sources_in D rows) ≡ sources_bytes D
  unfolding sources_in
  sources_in-length = joined_length (λ _. true) source (λ _. bytes) sized k ∙ place_each k

  pub sources_in_bytes : Bytes (sources_in D rows)
  unfolding sources_in
  sources_in_bytes = joined_bytes (λ _. true) source (λ c. bytes_of_bytes bytes (row_in rows c) (row_lt rows c)) k

  -- each part is a source of the rows
  pub sources_in-part : (c : ℕ) → c < k → part (sources_in D rows) bytes c ≡ bytes_of bytes (row_in rows c)
  unfolding sources_in
  sources_in-part c l = ap (λ n. slice (sources_in D rows) n bytes) (sym (place_each c)) ∙ part-joined (λ _. true) source (λ _. bytes) sized k c l refl

  -- bit p of source c, within its bytes and, where no source goes past them, anywhere
  pub sources_in-bit : (c p : ℕ) → c < k → p < 8 * bytes → sources_of D (sources_in D rows) c p ≡ row_in rows c p
  unfolding sources_of
  sources_in-bit c p l lp = ap (λ xs. bit_at xs p) (sources_in-part c l) ∙ bytes_of-bit bytes (row_in rows c) (row_lt rows c) p lp

  pub sources_in_row : InBytes D rows → (c p : ℕ) → c < k → sources_of D (sources_in D rows) c p ≡ row_in rows c p
  sources_in_row short c p l = elim (dec_lt p (8 * bytes)) [
    | yes lp ↦ sources_in-bit c p l lp
    | no lp ↦ source_past D (sources_in D rows) c p (omega arith) ∙ sym (short c p l (omega arith))
  ]

  pub sources_in-source : InBytes D rows → (c p : ℕ) → c < k → sources_of D (sources_in D rows) c p ≡ source_in D rows c p
  sources_in-source short c p l = sources_in_row short c p l ∙ sym (source_in_lem D rows c p l)

  -- a list of bytes that has the bits of the sources in their places is the sources
  pub are_sources_in : (ys : List ℕ) → Bytes ys → length ys ≡ sources_bytes D
      → ((c q : ℕ) → c < k → q < 8 * bytes → bit_at ys (8 * (c * bytes) + q) ≡ row_in rows c q) → ys ≡ sources_in D rows
  unfolding sources_in
  are_sources_in ys are_bytes size h =
      joined_parts (λ _. true) source (λ _. bytes) sized ys k (size ∙ sym (place_each k)) (λ c l _. ap (λ n. slice ys n bytes) (place_each c) ∙ same c l)
    where
      same_bit : (c : ℕ) → c < k → (q : ℕ) → bit_at (part ys bytes c) q ≡ bit_at (source c) q
      same_bit c l q = elim (dec_lt q (8 * bytes)) [
        | yes lq ↦ slice-bit ys (c * bytes) bytes q lq ∙ h c q l lq ∙ sym (bytes_of-bit bytes (row_in rows c) (row_lt rows c) q lq)
        | no lq ↦ slice_past ys (c * bytes) bytes q (omega arith) ∙ sym (bit_at_past (source c) q (omega (arith, sized c)))
      ]

      same : (c : ℕ) → c < k → part ys bytes c ≡ source c
      same c l =
          bytes_ext (part ys bytes c) (source c) (slice_bytes ys (c * bytes) bytes are_bytes) (bytes_of_bytes bytes (row_in rows c) (row_lt rows c))
          (slice-length ys (c * bytes) bytes (part_in c k bytes (length ys) l (omega arith)) ∙ sym (sized c)) (same_bit c l)
