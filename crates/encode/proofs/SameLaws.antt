-- The packets at hand, compared one after another with those that the sources encode to. Assumes nothing.
use mathlib.Core.Path.{◌≡◌, sym, ap, ◌∙◌}
use mathlib.Core.Bool.{true, true≢false}
use mathlib.Core.List.{List}
use Prim.Native.Nat.{ℕ, ◌+◌, ◌≤◌, ◌<◌}
use native.Mathlib.Omega.{arith}
use native.Mathlib.Decide.{ℕ_discrete, dec_lt}
use lib.ListN.{length}
use Rattle.bits.specs.Bits.{slice}
use Rattle.bits.proofs.ByteLaws.{part-joined}
use Rattle.table.specs.Limits.{longest}
use Rattle.table.specs.Desk.{Desk, mark, sources_bytes, packet_bytes, place_of, survivors_bytes}
use Rattle.table.specs.Table.{NextMark}
use Rattle.table.specs.Desks.{desk_of}
use Rattle.table.specs.declared.desks.Desk as laid
use Rattle.table.proofs.PacketLaws.{source_packet_bytes, place_none, place_on, place_next, place_ends}
use Rattle.table.proofs.Bounds.{Bounded, parity_fits}
use Rattle.code.specs.Code.{packet_of, packets_of, survivors_of}
use Rattle.code.proofs.CodeLaws.{by_kind, packet_size, are_packets}

-- every packet fits in the room for one
pub packet_fits_room : (D : Desk) → Bounded D → (i : ℕ) → packet_bytes D i ≤ longest
packet_fits_room D B = by_kind D (λ i. packet_bytes D i ≤ longest) (λ i l. omega (arith, source_packet_bytes D i l, B.bytes_high)) (parity_fits D B)

module _ (d : laid.Desk) (x packets : List ℕ) where
  abbrev D : Desk
  D = desk_of d

  abbrev n : ℕ
  n = d.k + d.m

  -- packet i is present, unless all were passed, and starts at byte `from`; every packet at hand before it is that of the sources
  pub record SameBelow (from i : ℕ) : Type 0 where
    pub most : i ≤ n
    pub found : i < n → mark d.marks i ≡ true
    pub starts : from ≡ place_of D (mark d.marks) i
    pub same : (j : ℕ) → j < i → mark d.marks j ≡ true → slice packets (place_of D (mark d.marks) j) (packet_bytes D j) ≡ packet_of D x j

  -- before the first packet at hand there is none
  pub same_first : (i : ℕ) → NextMark true d.marks 0 n i → SameBelow 0 i
  same_first i N = record {
    most = N.most;
    found = N.found;
    starts = place_none D (mark d.marks) ∙ place_next D d.marks 0 n i N;
    same = λ j l e. absurd (true≢false (sym e ∙ N.passed j (omega arith) l));
  }

  module _ (from i : ℕ) (A : SameBelow from i) (l : i < n) where
    -- packet i ends within the packets at hand
    pub same_room : from + packet_bytes D i ≤ survivors_bytes D
    same_room = omega (arith, A.starts, place_ends D (mark d.marks) i n l (A.found l))

    -- where it is that of the sources, the next begins where it ends
    pub same_next : (end r : ℕ) → end ≡ from + packet_bytes D i → NextMark true d.marks (i + 1) n r → slice packets from (packet_bytes D i) ≡ packet_of D x i → SameBelow end r
    same_next end r e N here = record {
      most = N.most;
      found = N.found;
      starts = e ∙ ap (λ v. v + packet_bytes D i) A.starts ∙ place_on D (mark d.marks) i (A.found l) ∙ place_next D d.marks (i + 1) n r N;
      same = λ j h on. elim (dec_lt j i) [
        | yes q ↦ A.same j q on
        | no q ↦ elim (ℕ_discrete i j) [
          | yes f ↦ rw (← f) (ap (λ v. slice packets v (packet_bytes D i)) (sym A.starts) ∙ here)
          | no nf ↦ absurd (true≢false (sym on ∙ N.passed j (omega arith) h))
        ]
      ];
    }

    -- packets that are those of the sources have packet i of the sources there
    pub same_here : length x ≡ sources_bytes D → packets ≡ survivors_of D x → slice packets from (packet_bytes D i) ≡ packet_of D x i
    unfolding packets_of place_of
    same_here size same =
        ap (λ v. slice packets v (packet_bytes D i)) A.starts
        ∙ rw same (part-joined (mark d.marks) (packet_of D x) (packet_bytes D) (packet_size D x size) n i l (A.found l))

  -- past the last packet all are those of the sources
  pub same_last : (from i : ℕ) → SameBelow from i → i ≡ n → length x ≡ sources_bytes D → length packets ≡ survivors_bytes D → packets ≡ survivors_of D x
  same_last from i A e size len = are_packets D (mark d.marks) x packets size len (λ j l on. A.same j (omega arith) on)
