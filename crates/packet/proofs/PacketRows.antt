-- The packets of the sources in the rows: a source stands in its row, and all sources added to an empty row are a parity. Assumes nothing.
use mathlib.Core.Path.{◌≡◌, refl, sym, ap, ◌∙◌}
use mathlib.Core.Bool.{Bool, true, not}
use mathlib.Core.List.{List}
use Prim.Native.Nat.{ℕ, ◌+◌, ◌-◌, ◌*◌, ◌/◌, ◌%◌, ◌^◌, ◌≤◌, ◌<◌}
use native.Mathlib.Omega.{arith}
use native.Mathlib.Nat.{zero-div, div_self, div-eq_of_lt}
use native.Mathlib.Decide.{dec_lt}
use lib.Dec.{eqb}
use lib.Pow.{pow_pos, pow-lt}
use lib.ListN.{length}
use Rattle.bits.specs.Bits.{bit_at, Bytes}
use Rattle.bits.proofs.BitLaws.{bit_at_past, bytes_ext}
use Rattle.table.specs.Limits.{longest}
use Rattle.table.specs.Desk.{Desk, mark, packet_bytes}
use Rattle.table.proofs.MarkLaws.{shared_mark}
use Rattle.table.proofs.Bounds.{Bounded, parity_fits}
use Rattle.table.proofs.PacketLaws.{source_packet_bytes}
use Rattle.rows.specs.Rows.{row_in, Stored}
use Rattle.rows.proofs.ClearFromLaws.{one_shl}
use Rattle.code.specs.Code.{sum_of, sources_of, packet_of, Short}
use Rattle.code.proofs.CodeLaws.{sum_of_same, by_kind, packet_size, packet-bytes, packet_source_bits, packet_parity_bits}
use Rattle.survivors.specs.Remainders.{marked_of, source_in, sources_in, InBytes, AddedToRests, NoRest}
use Rattle.survivors.proofs.RestLaws.{marked_on}
use Rattle.survivors.proofs.SourcesIn.{sources_in-length, sources_in_bytes, sources_in-bit, sources_in-source}

-- a word in which every mark is set
abbrev pub all_marks : ℕ
all_marks = 2 ^ 64 - 1

all_marked : (c : ℕ) → c < 64 → mark all_marks c ≡ true
all_marked c l = shared_mark 64 all_marks 0 refl c l ∙ ap (λ x. not (eqb (x % 2) 1)) (zero-div (2 ^ c))

-- a word in which the mark of packet i alone is set
pub its_mark : (i : ℕ) → i < 64 → mark (1 * 2 ^ i % 2 ^ 64) i ≡ true
its_mark i l = rw (one_shl i l) (ap (λ x. eqb (x % 2) 1) (div_self (pow_pos i)))

pub no_mark_after : (i n : ℕ) → i < n → n ≤ 64 → 1 * 2 ^ i % 2 ^ 64 / 2 ^ n ≡ 0
no_mark_after i n l h = rw (one_shl i (omega arith)) (div-eq_of_lt (pow-lt l))

-- every packet fits in a row
pub packet_in_row : (D : Desk) → Bounded D → (i : ℕ) → packet_bytes D i ≤ longest
packet_in_row D B = by_kind D (λ i. packet_bytes D i ≤ longest) (λ i l. omega (arith, source_packet_bytes D i l, B.bytes_high)) (parity_fits D B)

module _ (D : Desk) (rows : List ℕ) where
  open D use {k, m, bytes}

  -- row i of rows' holds packet i of the sources in the rows
  abbrev pub HoldsPacket : ℕ → List ℕ → Type 0
  HoldsPacket i rows' = (q : ℕ) → q < 8 * packet_bytes D i → row_in rows' i q ≡ bit_at (packet_of D (sources_in D rows) i) q

  -- nothing is left of any parity, so all sources added to the row of a parity are that parity; a source stands in its row as it is
  pub packet_held : Bounded D → Short D (sources_in D rows) → InBytes D rows → NoRest D rows → (on : ℕ → Bool) (rows' : List ℕ)
      → AddedToRests D on (sum_of D (marked_of all_marks (source_in D rows))) rows rows' → (i : ℕ) → i < k + m → on i ≡ true → HoldsPacket i rows'
  packet_held B short in_bytes none on rows' A = by_kind D (λ i. i < k + m → on i ≡ true → HoldsPacket i rows')
      (λ i l _ _ q lq.
      A.source i q l ∙ sym (packet_source_bits D (sources_in D rows) i q l ∙ sources_in-bit D rows i q l (omega (arith, source_packet_bytes D i l))))
      (λ a high e q l.
      A.rest a q (omega (arith, parity_fits D B a))
      ∙ rw (none a q, e) (ap (λ x. (0 + x) % 2) (sum_of_same D (marked_of all_marks (source_in D rows)) (sources_of D (sources_in D rows)) same a q))
      ∙ alone (sum_of D (sources_of D (sources_in D rows)) a q)
      ∙ sym (packet_parity_bits D (sources_in D rows) short a q (omega arith)))
    where
      alone : (x : ℕ) → (0 + x) % 2 ≡ x % 2
      alone x = omega arith

      same : (c p : ℕ) → c < k → marked_of all_marks (source_in D rows) c p ≡ sources_of D (sources_in D rows) c p
      same c p l = marked_on all_marks (source_in D rows) c p (all_marked c (omega (arith, B.k_high))) ∙ sym (sources_in-source D rows in_bytes c p l)

  -- stored whole, it is the packet
  pub packet_stored : (i : ℕ) (rows' out out' : List ℕ) → HoldsPacket i rows' → length out ≡ packet_bytes D i → Bytes out' → Stored 0 (length out) (row_in rows' i) out out'
      → out' ≡ packet_of D (sources_in D rows) i
  packet_stored i rows' out out' held size are_bytes S =
      bytes_ext out' packet are_bytes (packet-bytes D (sources_in D rows) all (sources_in_bytes D rows) i) (long ∙ sym as_long)
      (λ q. elim (dec_lt q (8 * packet_bytes D i)) [
        | yes l ↦ let e : q ≡ 8 * 0 + q = omega arith in ap (bit_at out') e ∙ S.here q (omega (arith, size)) ∙ held q l
        | no l ↦ bit_at_past out' q (omega (arith, long)) ∙ sym (bit_at_past packet q (omega (arith, as_long)))
      ])
    where
      packet : List ℕ
      packet = packet_of D (sources_in D rows) i

      all : length (sources_in D rows) ≡ k * bytes
      all = sources_in-length D rows

      long : length out' ≡ packet_bytes D i
      long = S.size ∙ size

      as_long : length packet ≡ packet_bytes D i
      as_long = packet_size D (sources_in D rows) all i
