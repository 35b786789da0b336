-- Laws of a parity's row: source after source is added to it, and parity after parity is put in its place. Assumes nothing.
use mathlib.Core.Path.{◌≡◌, sym, ap, ap₂, ◌∙◌, subst}
use mathlib.Core.Bool.{true}
use mathlib.Core.List.{List}
use Prim.Native.Nat.{ℕ, zero, suc, ◌+◌, ◌-◌, ◌*◌, ◌/◌, ◌%◌, ◌≤◌, ◌<◌}
use native.Mathlib.Omega.{arith}
use native.Mathlib.Numerals.{add-one}
use native.Mathlib.Nat.{zero-add, mul-add}
use native.Mathlib.Decide.{dec_lt}
use lib.Dec.{leb}
use borrow.Author.Tests.{leb-true, lt-ltb, le-ltb}
use lib.ListN.{length, replicate}
use Rattle.bits.specs.Sums.{one_at, sum}
use Rattle.bits.specs.Bits.{bit_at, up, Bytes, slice, part}
use Rattle.bits.proofs.SumLaws.{mod_more}
use Rattle.bits.proofs.BitLaws.{bit_zero, get_or-zeros}
use Rattle.bits.proofs.SliceLaws.{slice-bit, slice-length, slice_bytes}
use Rattle.rows.specs.Rows.{row_bits, row_words, row_in, AddedTo, Stored}
use Rattle.rows.proofs.RowLaws.{row_lt, added_here}
use Rattle.table.specs.Limits.{longest}
use Rattle.table.specs.Desk.{Desk, packet_bytes, place_of}
use Rattle.table.proofs.PacketLaws.{parities_more}
use Rattle.code.specs.Code.{sum_of, parity, sources_of, packet_of, parities_of}
use Rattle.code.proofs.CodeLaws.{is_packet, are_packets}

module _ (D : Desk) (x : List ℕ) (a to : ℕ) where
  open D use {k, m, bits, bytes, shift}

  -- the sum of the first b sources
  abbrev pub partial : ℕ → ℕ → ℕ
  partial b q = sum b (λ c. up (shift a c) (sources_of D x c) q)

  -- the first b sources were added to row `to`
  abbrev pub Sums : List ℕ → ℕ → List ℕ → Type 0
  Sums rows₀ b rows = AddedTo to (partial b) rows₀ rows

  pub sums_none : (rows : List ℕ) → Sums rows 0 rows
  unfolding sum
  sums_none rows c p lp = omega (arith, row_lt rows c p)

  pub sums_more : (rows₀ rows rows' : List ℕ) (b e : ℕ) (src : List ℕ) → src ≡ part x bytes b → e ≡ shift a b → Sums rows₀ b rows
      → AddedTo to (up e (bit_at src)) rows rows' → Sums rows₀ (b + 1) rows'
  unfolding sum sources_of
  sums_more rows₀ rows rows' b e src es ee S h c p lp =
      let source = up (shift a b) (sources_of D x b) p in
      let one : up e (bit_at src) p ≡ source = ap₂ (λ v xs. up v (bit_at xs) p) ee es in
      let all : one_at to c * partial b p + one_at to c * source ≡ one_at to c * partial (b + 1) p = rw add-one (sym (mul-add (one_at to c) (partial b p) source)) in
      h c p lp
      ∙ ap (λ v. (row_in rows c p + one_at to c * v) % 2) one
      ∙ mod_more (row_in rows c p) (row_in rows₀ c p) (one_at to c * partial b p) (one_at to c * source) (S c p lp)
      ∙ ap (λ v. (row_in rows₀ c p + v) % 2) all

  pub sums_all : (rows₀ rows : List ℕ) (b : ℕ) → b ≡ k → Sums rows₀ b rows → AddedTo to (sum_of D (sources_of D x) a) rows₀ rows
  unfolding sum_of
  sums_all rows₀ rows b e S c p lp = S c p lp ∙ ap (λ n. (row_in rows₀ c p + one_at to c * partial n p) % 2) e

-- noughts have nothing set
pub row_of_noughts : (n a p : ℕ) → row_in (replicate n 0) a p ≡ 0
unfolding row_in
row_of_noughts n a p = elim (dec_lt p row_bits) [
  | yes l ↦ rw (lt-ltb p row_bits l, get_or-zeros n (a * row_words + p / 64)) (bit_zero (p % 64))
  | no l ↦ let h : row_bits ≤ p = omega arith in rw (le-ltb p row_bits h)
]

-- what is stored of a row to which the sources were added while it had nothing set is the parity
pub row_stored : (D : Desk) (x : List ℕ) (a to from n : ℕ) (rows rows' dst dst' : List ℕ) → ((p : ℕ) → row_in rows to p ≡ 0) → n ≤ longest
    → AddedTo to (sum_of D (sources_of D x) a) rows rows' → Stored from n (row_in rows' to) dst dst' → Stored from n (parity D (sources_of D x) a) dst dst'
row_stored D x a to from n rows rows' dst dst' none ln h S =
    let sums = sum_of D (sources_of D x) a in
    record {
      size = S.size;
      here = λ p lp. S.here p lp ∙ added_here to sums rows rows' h p (omega arith) ∙ ap (λ v. (v + sums p) % 2) (none p) ∙ ap (λ v. v % 2) (zero-add (sums p));
      below = S.below;
      above = S.above;
    }

-- what is stored from the front on stands there
pub stored_front : (n : ℕ) (f : ℕ → ℕ) (dst dst' : List ℕ) → Stored 0 n f dst dst' → (q : ℕ) → q < 8 * n → bit_at dst' q ≡ f q
stored_front n f dst dst' S q l = ap (bit_at dst') (sym (zero-add q)) ∙ S.here q l

module _ (D : Desk) (x : List ℕ) where
  open D use {k, m, bits, bytes, shift}

  abbrev place : ℕ → ℕ
  place a = place_of D (leb k) (k + a)

  -- the first n parities of the sources x stand in dst, one after another
  abbrev pub Stand : ℕ → List ℕ → Type 0
  Stand n dst = (a q : ℕ) → a < n → q < 8 * packet_bytes D (k + a) → bit_at dst (8 * place a + q) ≡ parity D (sources_of D x) a q

  pub stand_none : (dst : List ℕ) → Stand 0 dst
  stand_none dst a q l = absurd (omega arith)

  pub parities_grow : (i j : ℕ) → i ≤ j → place i ≤ place j
  parities_grow i zero l = let e : i ≡ 0 = omega arith in rw e (omega arith)
  parities_grow i (suc j) l = elim (dec_lt i (suc j)) [
    | yes q ↦ omega (arith, parities_grow i j (omega arith), parities_more D j, ap place (sym (add-one j)))
    | no q ↦ let e : i ≡ suc j = omega arith in rw e (omega arith)
  ]

  -- one parity more, after those that stand there
  pub stand_more : (n : ℕ) (dst dst' : List ℕ) → Stand n dst → Stored (place n) (packet_bytes D (k + n)) (parity D (sources_of D x) n) dst dst' → Stand (n + 1) dst'
  stand_more n dst dst' R S a q la lq = elim (dec_lt a n) [
    | yes l ↦ S.below (8 * place a + q) (omega (arith, parities_more D a, parities_grow (a + 1) n (omega arith))) ∙ R a q l lq
    | no l ↦ let e : n ≡ a = omega arith in subst (λ b. bit_at dst' (8 * place b + q) ≡ parity D (sources_of D x) b q) e (S.here q (omega (arith, ap (λ b. packet_bytes D (k + b)) e)))
  ]

  -- all parities in their places
  pub stand_all : (ys : List ℕ) → Bytes ys → length x ≡ k * bytes → length ys ≡ place m → Stand m ys → ys ≡ parities_of D x
  stand_all ys by size len R = are_packets D (leb k) x ys size len each
    where
      each : (i : ℕ) → i < k + m → leb k i ≡ true → slice ys (place_of D (leb k) i) (packet_bytes D i) ≡ packet_of D x i
      each i l on =
          let a = i - k in
          let kl : k ≤ i = leb-true k i on in
          let e : k + a ≡ i = omega arith in
          let la : a < m = omega arith in
          let n = packet_bytes D (k + a) in
          let room : place a + n ≤ length ys = omega (arith, parities_more D a, len, parities_grow (a + 1) m (omega arith)) in
          let bits : (q : ℕ) → q < 8 * n → bit_at (slice ys (place a) n) q ≡ parity D (sources_of D x) a q = λ q lq. slice-bit ys (place a) n q lq ∙ R a q la lq in
          subst (λ j. slice ys (place_of D (leb k) j) (packet_bytes D j) ≡ packet_of D x j) e
          (is_packet D x a (slice ys (place a) n) la (slice_bytes ys (place a) n by) (slice-length ys (place a) n room) bits)
