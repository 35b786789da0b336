-- Sources encode to the packets exactly when the packets' bits are theirs. Assumes nothing.
use mathlib.Core.Path.{◌≡◌, sym, ap, ◌∙◌}
use mathlib.Core.Bool.{true}
use mathlib.Core.List.{List}
use Prim.Native.Nat.{ℕ, ◌+◌, ◌≤◌, ◌<◌}
use native.Mathlib.Omega.{arith}
use lib.ListN.{length}
use Rattle.bits.specs.Bits.{bit_at, Bytes}
use Rattle.bits.proofs.BitLaws.{bytes_ext}
use Rattle.bits.proofs.ByteLaws.{part-joined}
use Rattle.table.specs.Desk.{Desk, sources_bytes, packet_bits, packet_bytes, place_of, survivors_bytes}
use Rattle.table.proofs.PacketLaws.{place_ends, source_packet_bits}
use Rattle.code.specs.Code.{Bits, sources_of, packet_of, packets_of, Short, Encodes}
use Rattle.bits.proofs.SliceLaws.{slice-length, slice_bytes}
use Rattle.code.proofs.CodeLaws.{sum_past, by_kind, packet_size, packet-bytes, packet_source_bits, packet_parity_bits, list_source, are_packets}
use Rattle.survivors.specs.Packets.{came, came_parity, Stray, EncodesTo}

module _ (D : Desk) (packets x : List ℕ) where
  open D use {k, m, present}

  -- the packets that sources encode to, one by one
  pub came_packet : EncodesTo D packets x → (i : ℕ) → i < k + m → present i ≡ true → came D packets i ≡ packet_of D x i
  unfolding packets_of place_of
  came_packet E i l e = rw E.same (part-joined present (packet_of D x) (packet_bytes D) (packet_size D x E.size) (k + m) i l e)

  module _ (short : Short D x) where
    -- no packet that sources encode to has a one above its last bit
    pub encoded_not_stray : EncodesTo D packets x → Stray D packets → ⊥
    encoded_not_stray E (i, l, e, (p, lp, one)) =
        by_kind D (λ j. j < k + m → present j ≡ true → packet_bits D j ≤ p → bit_at (came D packets j) p ≡ 1 → ⊥)
        (λ c lc l e lp one. omega (arith, ap (λ (xs : List ℕ). bit_at xs p) (came_packet E c l e) ∙ packet_source_bits D x c p lc ∙ short c p lc (omega (arith, source_packet_bits D c lc))))
        (λ a l e lp one.
        let la : a < m = omega arith in
        omega (arith, ap (λ (xs : List ℕ). bit_at xs p) (came_packet E (k + a) l e) ∙ packet_parity_bits D x short a p la, sum_past D (sources_of D x) short a p la lp)) i l e lp one

    -- s holds the present sources as they came
    module _ (s : Bits) (kept : (c p : ℕ) → c < k → present c ≡ true → s c p ≡ bit_at (came D packets c) p) where
      pub encodes_bits : EncodesTo D packets x → Encodes D (came_parity D packets) s (sources_of D x)
      unfolding came_parity
      encodes_bits E = record {
        source = list_source D x short;
        kept = λ c p lc e. kept c p lc e ∙ ap (λ (xs : List ℕ). bit_at xs p) (came_packet E c (omega arith) e) ∙ packet_source_bits D x c p lc;
        made = λ a q h. ap (λ (xs : List ℕ). bit_at xs q) (came_packet E (k + a) (omega (arith, h.0)) h.1) ∙ packet_parity_bits D x short a q h.0;
      }

      pub bits_encode : Bytes packets → length packets ≡ survivors_bytes D → length x ≡ sources_bytes D → Bytes x → Encodes D (came_parity D packets) s (sources_of D x) → EncodesTo D packets x
      unfolding came_parity
      bits_encode hp len size hx E = record { size = size; are_bytes = hx; same = are_packets D present x packets size len each }
        where
          same_bits : (i : ℕ) → i < k + m → present i ≡ true → (q : ℕ) → bit_at (came D packets i) q ≡ bit_at (packet_of D x i) q
          same_bits = by_kind D (λ i. i < k + m → present i ≡ true → (q : ℕ) → bit_at (came D packets i) q ≡ bit_at (packet_of D x i) q)
              (λ c lc _ e q. sym (kept c q lc e) ∙ E.kept c q lc e ∙ sym (packet_source_bits D x c q lc))
              (λ a l e q. let la : a < m = omega arith in E.made a q (la, e) ∙ sym (packet_parity_bits D x short a q la))

          each : (i : ℕ) → i < k + m → present i ≡ true → came D packets i ≡ packet_of D x i
          each i l e =
              bytes_ext (came D packets i) (packet_of D x i) (slice_bytes packets (place_of D present i) (packet_bytes D i) hp) (packet-bytes D x size hx i)
              (slice-length packets (place_of D present i) (packet_bytes D i) (omega (arith, place_ends D present i (k + m) l e)) ∙ sym (packet_size D x size i)) (same_bits i l e)
