-- The answer of packet, from what rebuild gives at the same packets, and that it meets the promise: for examples. Assumes nothing.
use mathlib.Core.Path.{◌≡◌, refl}
use mathlib.Core.Logic.{inl, inr}
use mathlib.Core.Bool.{true}
use mathlib.Core.List.{List, ◌++◌}
use Prim.Native.Nat.{ℕ, ◌+◌, ◌-◌, ◌≤◌}
use native.Mathlib.Omega.{arith}
use lib.ListN.{length}
use Rattle.table.specs.Desk.{Desk, desk, sources_bytes, survivors_bytes, packet_bytes}
use Rattle.table.specs.Checks.{Checked, shape_checks, marked_checks}
use Rattle.table.proofs.CheckLaws.{numbered_by, below_by, passed, from_later, lengths_exact}
use Rattle.table.proofs.AnswerLaws.{answer_goes, answer_refused, answer_done}
use Rattle.table.proofs.ShapeLaws.{marked_parts}
use Rattle.table.proofs.Taken.{shape_b, shape_taken}
use Rattle.code.specs.Code.{packet_of}
use Rattle.rebuild.specs.Stages.{decode_checks, rebuild_lengths_checks}
use Rattle.rebuild.specs.Promise.{Rebuilt}
use Rattle.packet.specs.Stages.{wanted_named_checks}
use Rattle.packet.specs.Promise.{wanted_checks, PacketMade}
use Rattle.packet.proofs.CheckParts.{decoding_decides}

module _ (k m l : ℕ) (table : List ℕ) (marks : ℕ) (packets : List ℕ) (wanted : ℕ) (before : List ℕ) where
  abbrev D : Desk
  D = desk k m l table marks

  -- past rebuild's checks in front of 8, 9 and 10 and packet's own, these decide for packet too
  follows : (room : List ℕ) (number : ℕ) → Checked (marked_checks k m l table marks ++ rebuild_lengths_checks D packets room) 0 → Checked (decode_checks D packets) number
      → 1 ≤ wanted → wanted ≤ k + m → length before ≡ packet_bytes D (wanted - 1) → Checked (wanted_checks k m l table marks packets wanted before) number
  follows room number front decoded low high long =
      let marked = marked_checks k m l table marks in
      let p = passed marked (rebuild_lengths_checks D packets room) (numbered_by marked refl) front in
      let parts = marked_parts k m l table marks p.0 in
      let came = (lengths_exact (survivors_bytes D) (sources_bytes D) packets room p.1).0 in
      decoding_decides k m l table marks packets wanted before parts.0 parts.1 low high came long number decoded

  -- what is computed of packet: that there is none of that number; else what rebuild gives from the same packets, and of its sources the packet
  pub data PacketOutcome : ℕ → List ℕ → Type 0 where
    none_such : shape_b k m l table ≡ true → k + m + 1 ≤ wanted → PacketOutcome 6 before
    refuses : {room sources : List ℕ} {number count : ℕ} → Rebuilt k m l table marks packets room number count sources → 8 ≤ number
        → 1 ≤ wanted → wanted ≤ k + m → length before ≡ packet_bytes D (wanted - 1) → PacketOutcome number before
    makes : {room sources packet : List ℕ} {count : ℕ} → Rebuilt k m l table marks packets room 0 count sources
        → 1 ≤ wanted → wanted ≤ k + m → length before ≡ packet_bytes D (wanted - 1) → packet ≡ packet_of D sources (wanted - 1) → PacketOutcome 0 packet

  pub packet_outcome_meets : {number : ℕ} {after : List ℕ} → PacketOutcome number after → PacketMade k m l table marks packets wanted before number after
  packet_outcome_meets (none_such shape high) =
      let cs = shape_checks k m l table in
      answer_goes cs (wanted_named_checks D packets marks wanted before) 6 (numbered_by cs refl) (shape_taken k m l table shape)
      (answer_refused (wanted_named_checks D packets marks wanted before) 6 6 (inl (inr (inr (omega arith)), refl)) (λ z. omega arith) refl refl)
  packet_outcome_meets (refuses {room} {sources} {number} {count} x late low high long) =
      let front = marked_checks k m l table marks ++ rebuild_lengths_checks D packets room in
      let w = from_later 8 front (decode_checks D packets) number late (below_by 8 front refl) x.numbered in
      answer_refused (wanted_checks k m l table marks packets wanted before) number number (follows room number w.0 w.1 low high long) (λ z. omega arith) refl refl
  packet_outcome_meets (makes {room} {sources} {packet} {count} x low high long same) =
      let front = marked_checks k m l table marks ++ rebuild_lengths_checks D packets room in
      let w = passed front (decode_checks D packets) (numbered_by front refl) x.numbered in
      answer_done (wanted_checks k m l table marks packets wanted before) 0 (follows room 0 w.0 w.1 low high long) refl (sources, (x.done refl).1, same)
