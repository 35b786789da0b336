-- Laws of the code: the bits of sources, parities and packets. Assumes nothing.
use mathlib.Core.Path.{◌≡◌, refl, sym, ap, ◌∙◌, subst}
use mathlib.Core.Bool.{Bool, true}
use mathlib.Core.List.{List}
use Prim.Native.Nat.{ℕ, ◌+◌, ◌-◌, ◌*◌, ◌%◌, ◌≤◌, ◌<◌}
use native.Mathlib.Omega.{arith}
use native.Mathlib.Nat.{add-sub_cancel_left, mul-le-mul_right}
use native.Mathlib.Decide.{dec_lt}
use borrow.Author.Tests.{lt-ltb, le-ltb}
use lib.ListN.{length, take, drop}
use Rattle.bits.specs.Bits.{bit_at, Bytes, slice, part, bytes_of}
use Rattle.bits.proofs.SumLaws.{sum_same, sum_nought}
use Rattle.bits.proofs.BitLaws.{bit_at_lt, bit_at_past, bytes_ext}
use Rattle.bits.proofs.SliceLaws.{slice-bit, slice_past, slice-length, slice_bytes, part_in, part_taken}
use Rattle.bits.proofs.UpLaws.{up_same, up_high}
use Rattle.bits.proofs.ByteLaws.{bytes_of-length, bytes_of_bytes, bytes_of-bit, joined_parts}
use Rattle.table.specs.Desk.{Desk, desk, sources_bytes, reach, packet_bits, packet_bytes, place_of}
use Rattle.table.specs.Limits.{all_sources}
use Rattle.table.specs.Desks.{desk_of}
use Rattle.table.specs.declared.desks.Desk as laid
use Rattle.table.proofs.PacketLaws.{source_full, within_reach, parity_packet_bits, source_packet_bytes, parity_packet_bytes}
use Rattle.table.proofs.Bounds.{Bounded, sources_fit}
use Rattle.code.specs.Code.{Bits, sum_of, parity, sources_of, packet_of, packets_of, Short, Source}

module _ (D : Desk) where
  open D use {k, m, bits, bytes, shift}

  -- bits of sources are bits, and none stands past a source's bytes
  pub source_lt : (x : List ℕ) (c p : ℕ) → sources_of D x c p < 2
  unfolding sources_of
  source_lt x c p = bit_at_lt (part x bytes c) p

  pub source_past : (x : List ℕ) (c p : ℕ) → 8 * bytes ≤ p → sources_of D x c p ≡ 0
  unfolding sources_of
  source_past x c p h = slice_past x (c * bytes) bytes p h

  pub source-bit : (x : List ℕ) (c p : ℕ) → p < 8 * bytes → sources_of D x c p ≡ bit_at x (8 * (c * bytes) + p)
  unfolding sources_of
  source-bit x c p h = slice-bit x (c * bytes) bytes p h

  -- where a source fills its bytes no bit stands past its end
  pub full_short : bits ≡ 8 * bytes → (x : List ℕ) → Short D x
  full_short full x c p _ l = source_past x c p (omega arith)

  -- equal sources have equal sums
  pub sum_of_same : (s t : Bits) → ((c p : ℕ) → c < k → s c p ≡ t c p) → (a q : ℕ) → sum_of D s a q ≡ sum_of D t a q
  unfolding sum_of
  sum_of_same s t e a q = sum_same k _ _ (λ c l. up_same (shift a c) (s c) (t c) q (λ p _. e c p l))

  -- nothing stands past the last bit of a parity
  pub sum_past : (s : Bits) → ((c p : ℕ) → c < k → bits ≤ p → s c p ≡ 0) → (a q : ℕ) → a < m → packet_bits D (k + a) ≤ q → sum_of D s a q ≡ 0
  unfolding sum_of
  sum_past s short a q la h =
      sum_nought k _ (λ c l. up_high (shift a c) (s c) bits q (λ p lp. short c p l lp) (omega (arith, within_reach D a c l, parity_packet_bits D a)))

  pub parity_lt : (s : Bits) (a q : ℕ) → parity D s a q < 2
  parity_lt s a q = omega arith

  -- the bits of a packet fit its bytes
  pub packet_fits : (a : ℕ) → packet_bits D (k + a) ≤ 8 * packet_bytes D (k + a)
  packet_fits a = omega (arith, parity_packet_bytes D (k + a) (omega arith))

  packet_source : (x : List ℕ) (i : ℕ) → i < k → packet_of D x i ≡ part x bytes i
  unfolding packet_of
  packet_source x i h = rw (lt-ltb i k h)

  packet_parity : (x : List ℕ) (a : ℕ) → packet_of D x (k + a) ≡ bytes_of (packet_bytes D (k + a)) (parity D (sources_of D x) a)
  unfolding packet_of
  packet_parity x a = let h : k ≤ k + a = omega arith in rw (le-ltb (k + a) k h, add-sub_cancel_left k a)

  -- packets by kind: sources and parities
  pub by_kind : (P : ℕ → Type 0) → ((i : ℕ) → i < k → P i) → ((a : ℕ) → P (k + a)) → (i : ℕ) → P i
  by_kind P low high i = elim (dec_lt i k) [
    | yes h ↦ low i h
    | no h ↦ let e : k + (i - k) ≡ i = omega arith in subst P e (high (i - k))
  ]

  module _ (x : List ℕ) (size : length x ≡ k * bytes) where
    pub packet_size : (i : ℕ) → length (packet_of D x i) ≡ packet_bytes D i
    packet_size = by_kind (λ i. length (packet_of D x i) ≡ packet_bytes D i)
        (λ i h. ap length (packet_source x i h) ∙ slice-length x (i * bytes) bytes (omega (arith, mul-le-mul_right bytes h)) ∙ source_packet_bytes D i h)
        (λ a. ap length (packet_parity x a) ∙ bytes_of-length (packet_bytes D (k + a)) _)

    pub packet-bytes : Bytes x → (i : ℕ) → Bytes (packet_of D x i)
    packet-bytes h = by_kind (λ i. Bytes (packet_of D x i))
        (λ i l. rw (packet_source x i l) (slice_bytes x (i * bytes) bytes h))
        (λ a. rw (packet_parity x a) (bytes_of_bytes (packet_bytes D (k + a)) _ (parity_lt (sources_of D x) a)))

  -- the bits of a source's packet are the source's
  pub packet_source_bits : (x : List ℕ) (c q : ℕ) → c < k → bit_at (packet_of D x c) q ≡ sources_of D x c q
  unfolding sources_of
  packet_source_bits x c q h = ap (λ xs. bit_at xs q) (packet_source x c h)

  -- the bits of a parity's packet are the polynomial sum, at every place
  pub packet_parity_bits : (x : List ℕ) → Short D x → (a q : ℕ) → a < m → bit_at (packet_of D x (k + a)) q ≡ parity D (sources_of D x) a q
  packet_parity_bits x short a q la =
      let n = packet_bytes D (k + a) in
      let f = parity D (sources_of D x) a in
      ap (λ xs. bit_at xs q) (packet_parity x a) ∙ elim (dec_lt q (8 * n)) [
        | yes h ↦ bytes_of-bit n f (parity_lt (sources_of D x) a) q h
        | no h ↦ bit_at_past (bytes_of n f) q (omega (arith, bytes_of-length n f))
            ∙ sym (ap (λ v. v % 2) (sum_past (sources_of D x) short a q la (omega (arith, packet_fits a))))
      ]

  -- a list of bytes that has a packet's length and bits is that packet
  pub is_packet : (x : List ℕ) (a : ℕ) (ys : List ℕ) → a < m → Bytes ys → length ys ≡ packet_bytes D (k + a)
      → ((q : ℕ) → q < 8 * packet_bytes D (k + a) → bit_at ys q ≡ parity D (sources_of D x) a q) → ys ≡ packet_of D x (k + a)
  is_packet x a ys la by len h =
      let n = packet_bytes D (k + a) in
      let f = parity D (sources_of D x) a in
      bytes_ext ys (bytes_of n f) by (bytes_of_bytes n f (parity_lt (sources_of D x) a)) (len ∙ sym (bytes_of-length n f))
      (λ q. elim (dec_lt q (8 * n)) [
        | yes l ↦ h q l ∙ sym (bytes_of-bit n f (parity_lt (sources_of D x) a) q l)
        | no l ↦ bit_at_past ys q (omega arith) ∙ sym (bit_at_past (bytes_of n f) q (omega (arith, bytes_of-length n f)))
      ])
      ∙ sym (packet_parity x a)

  -- a packet does not depend on which packets are at hand
  pub packet_ignores_present : (present' : ℕ → Bool) (x : List ℕ) (i : ℕ) → packet_of D x i ≡ packet_of (record { k = k; m = m; bits = bits; bytes = bytes; shift = shift; present = present' }) x i
  unfolding packet_of sources_of sum_of packet_bytes packet_bits reach
  packet_ignores_present present' x i = refl

  -- sources in a list are bits, and none stands past its end
  pub list_source : (x : List ℕ) → Short D x → Source D (sources_of D x)
  list_source x short = record { bit = source_lt x; short = short }

  pub is_source : (x : List ℕ) (i : ℕ) → i < k → part x bytes i ≡ packet_of D x i
  is_source x i h = sym (packet_source x i h)

  -- a list that has the packets that are on in their places is those packets
  pub are_packets : (on : ℕ → Bool) (x ys : List ℕ) → length x ≡ k * bytes → length ys ≡ place_of D on (k + m)
      → ((i : ℕ) → i < k + m → on i ≡ true → slice ys (place_of D on i) (packet_bytes D i) ≡ packet_of D x i) → ys ≡ packets_of D on x
  unfolding packets_of place_of
  are_packets on x ys size len h = joined_parts on (packet_of D x) (packet_bytes D) (packet_size x size) ys (k + m) len h

-- source c of n bytes, as code takes it from the sources: it ends within them, they are few, and what is taken is that source, of n bytes
pub record SourceTaken (D : Desk) (x : List ℕ) (c n : ℕ) : Type 0 where
  pub within : c * n + n ≤ length x
  pub few : c * n + n ≤ all_sources
  pub same : take (c * n + n - c * n) (drop (c * n) x) ≡ part x D.bytes c
  pub long : length (take (c * n + n - c * n) (drop (c * n) x)) ≡ n

pub source_taken : (D : Desk) → Bounded D → (x : List ℕ) → sources_bytes D ≤ length x → (c n : ℕ) → c < D.k → n ≡ D.bytes → SourceTaken D x c n
source_taken D B x size c n l e =
    let all : D.k * n ≡ sources_bytes D = ap (λ w. D.k * w) e in
    let ends = part_in c D.k n (length x) l (omega (arith, all, size)) in
    record {
      within = ends;
      few = part_in c D.k n all_sources l (omega (arith, all, sources_fit D B));
      same = part_taken x n c ∙ ap (λ w. part x w c) e;
      long = ap length (part_taken x n c) ∙ slice-length x (c * n) n ends;
    }

-- The one place that says so: a source of length l fills its bytes, so no sources of an accepted call have a bit past their end.
pub shape_short : (d : laid.Desk) (x : List ℕ) → Short (desk_of d) x
shape_short d x = full_short (desk_of d) (source_full d.length) x

pub desk_short : (k m l : ℕ) (table : List ℕ) (marks : ℕ) (x : List ℕ) → Short (desk k m l table marks) x
desk_short k m l table marks x = full_short (desk k m l table marks) (source_full l) x
