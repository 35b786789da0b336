-- Where the packets stand in their stripe, and so which of its bits are theirs. Assumes nothing.
use mathlib.Core.Path.{◌≡◌, refl, sym, ap, ap₂, subst, ◌∙◌}
use mathlib.Core.Bool.{Bool, true, false, true≢false}
use mathlib.Core.List.{List}
use Prim.Native.Nat.{ℕ, zero, suc, ◌+◌, ◌*◌, ◌≤◌, ◌<◌}
use native.Mathlib.Omega.{arith}
use native.Mathlib.Numerals.{add-one}
use native.Mathlib.Decide.{ℕ_discrete, dec_lt}
use lib.ListN.{length, set, length-set}
use lib.Seq.{get_or-set_same, get_or-set_other}
use Rattle.bits.specs.Sums.{at}
use Rattle.bits.specs.Bits.{bit_at, part}
use Rattle.bits.proofs.SliceLaws.{slice-bit, part_in}
use Rattle.table.specs.Limits.{max_packets, longest}
use Rattle.table.specs.Desk.{Desk, mark, packet_bytes, place_of, survivors_bytes}
use Rattle.table.specs.Table.{NextMark}
use Rattle.table.specs.Desks.{desk_of}
use Rattle.table.proofs.Bounds.{Bounded, within_bounds, parity_fits}
use Rattle.table.proofs.PacketLaws.{source_packet_bytes, place_none, place_on, place_off, place_ends}
use Rattle.code.proofs.CodeLaws.{by_kind}
use Rattle.survivors.specs.Packets.{came, stripe}
use Rattle.survivors.proofs.AtHand.{AtPacket}
use Rattle.lanes.specs.Lanes.{Gathers}
use Rattle.lanes.specs.declared.Log.{Log}

-- belongs to table
module _ (D : Desk) (B : Bounded D) where
  open D use {k, m, present}

  -- no packet is longer than the longest, so before a packet there are no more bytes than so many of the longest have, nor in a stripe
  packet_short : (i : ℕ) → packet_bytes D i ≤ longest
  packet_short = by_kind D (λ i. packet_bytes D i ≤ longest) (λ i l. omega (arith, source_packet_bytes D i l, B.bytes_high)) (parity_fits D B)

  place_more : (on : ℕ → Bool) (i : ℕ) → place_of D on (i + 1) ≤ place_of D on i + longest
  place_more on i = go (on i) refl
    where
      go : (v : Bool) → on i ≡ v → place_of D on (i + 1) ≤ place_of D on i + longest
      go true e = omega (arith, place_on D on i e, packet_short i)
      go false e = omega (arith, place_off D on i e)

  pub place_short : (on : ℕ → Bool) (i : ℕ) → place_of D on i ≤ i * longest
  place_short on zero = omega (arith, place_none D on)
  place_short on (suc i) = omega (arith, place_short on i, place_more on i, ap (place_of D on) (add-one i))

  pub stripe_short : survivors_bytes D ≤ max_packets * longest
  stripe_short = omega (arith, place_short present (k + m), B.k_high, B.m_high)

-- ---- bit q of packet i, in every stripe

module _ (log : Log) where
  abbrev D : Desk
  D = desk_of log.desk.now

  -- by the places it is a bit of each stripe, among its first bits, and that of the packet as it came
  pub record BitFound (i q : ℕ) : Type 0 where
    pub inside : 8 * at log.places i + q < 8 * log.size
    pub low : 8 * at log.places i + q < 8 * (max_packets * longest)
    pub arrived : (word : ℕ) → Gathers log.stripes (λ t. bit_at (part log.packets.now log.size t) (8 * at log.places i + q)) word
        → Gathers log.stripes (λ t. bit_at (came D (stripe D log.packets.now t) i) q) word

  pub bit_found : (i q : ℕ) → i < D.k + D.m → D.present i ≡ true → q < 8 * packet_bytes D i → BitFound i q
  bit_found i q l e lq = record {
    inside = omega (arith, ends, log.sized);
    low = omega (arith, ends, stripe_short D (within_bounds log.desk.now));
    arrived = λ word G t lt.
        G t lt
        ∙ ap₂ (λ x y. bit_at (part log.packets.now x t) (8 * y + q)) log.sized (log.placed i l e)
        ∙ sym (slice-bit (stripe D log.packets.now t) (place_of D D.present i) (packet_bytes D i) q lq);
  }
    where
      ends : at log.places i + packet_bytes D i ≤ survivors_bytes D
      ends = omega (arith, log.placed i l e, place_ends D D.present i (D.k + D.m) l e)

  -- stripe t stands within the packets
  pub stripe_in : (t : ℕ) → t < log.stripes → t * log.size + log.size ≤ length log.packets.now
  stripe_in t l = part_in t log.stripes log.size (length log.packets.now) l (omega (arith, log.filled ∙ ap (λ x. log.stripes * x) (sym log.sized)))

-- ---- the places, from one packet present to the next

-- the places of the packets present below packet i are listed
pub record PlacesBelow (D : Desk) (marks i : ℕ) (places : List ℕ) : Type 0 where
  pub size : length places ≡ max_packets
  pub listed : (j : ℕ) → j < i → mark marks j ≡ true → at places j ≡ place_of D (mark marks) j

module _ (D : Desk) (marks n : ℕ) where
  pub places_first : (r : ℕ) (places : List ℕ) → length places ≡ max_packets → NextMark true marks 0 n r → PlacesBelow D marks r places
  places_first r places size N = record { size = size; listed = λ j l e. absurd (true≢false (sym e ∙ N.passed j (omega arith) l)) }

  pub places_next : (from i r : ℕ) (places : List ℕ) → AtPacket D marks n from i → i < max_packets → NextMark true marks (i + 1) n r → PlacesBelow D marks i places
      → PlacesBelow D marks r (set places i from)
  places_next from i r places A l N P = record {
    size = length-set places i from ∙ P.size;
    listed = λ j lj e. elim (dec_lt j i) [
      | yes below ↦ get_or-set_other places i j from 0 (λ f. omega arith) ∙ P.listed j below e
      | no above ↦ elim (ℕ_discrete i j) [
        | yes here ↦ subst (λ x. at (set places i from) x ≡ place_of D (mark marks) x) here (get_or-set_same places i from 0 (omega (arith, P.size)) ∙ A.starts)
        | no passed ↦ absurd (true≢false (sym e ∙ N.passed j (omega arith) lj))
      ]
    ];
  }
