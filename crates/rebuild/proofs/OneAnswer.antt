-- Two answers that meet rebuild's promise at the same input are equal. Assumes nothing.
use mathlib.Core.Path.{◌≡◌, refl, sym, ◌∙◌}
use mathlib.Core.Bool.{true}
use mathlib.Core.List.{List}
use Prim.Native.Nat.{ℕ, ◌≤◌, ◌<◌}
use native.Mathlib.Decide.{ℕ_discrete}
use Rattle.bits.specs.Bits.{bit_at}
use Rattle.table.specs.Desk.{Desk, desk}
use Rattle.table.specs.Checks.{Checked, marked_checks}
use Rattle.table.proofs.CheckLaws.{numbered_by, checked_once, passed}
use Rattle.table.proofs.AnswerLaws.{answer_passes}
use Rattle.table.proofs.ShapeLaws.{Shaped, shaped, marked_parts}
use Rattle.table.proofs.PacketLaws.{source_bytes_low}
use Rattle.code.specs.Code.{Bits, sources_of, Short}
use Rattle.code.proofs.CodeLaws.{desk_short}
use Rattle.walk.specs.Ends.{Finishes, stall_checks}
use Rattle.walk.proofs.Ends.{not_stalled, finishes_ends, one_count}
use Rattle.walk.proofs.ReadLaws.{sources_same}
use Rattle.survivors.specs.Packets.{came, came_parity, EncodesTo, packets_checks}
use Rattle.survivors.proofs.SourceLaws.{sources_ext}
use Rattle.survivors.proofs.CameLaws.{encodes_bits}
use Rattle.rebuild.specs.Stages.{decode_checks, rebuild_lent_checks}
use Rattle.rebuild.specs.Promise.{rebuild_checks, Rebuilt}

module _ (D : Desk) where
  open D use {k, m, bytes, present}

  -- where none of 8, 9 and 10 is given, some order finishes
  pub decoded_finishes : (packets : List ℕ) → Checked (decode_checks D packets) 0 → (n : ℕ) × Finishes D n
  decoded_finishes packets c = not_stalled D (passed (stall_checks D) (packets_checks D packets) (numbered_by (stall_checks D) refl) c).0

  -- where some order finishes, only one family of sources encodes to the packets
  pub one_source : 1 ≤ bytes → ((x : List ℕ) → Short D x) → (packets : List ℕ) (n : ℕ) → Finishes D n → (x y : List ℕ) → EncodesTo D packets x → EncodesTo D packets y → x ≡ y
  one_source some short packets n F x y X Y =
      sources_ext D x y some X.are_bytes Y.are_bytes X.size Y.size
      (sources_same D (came_parity D packets) s F.reached.run F.whole (sources_of D x) (sources_of D y) (encodes_bits D packets x (short x) s kept X) (encodes_bits D packets y (short y) s kept Y))
    where
      s : Bits
      s c p = bit_at (came D packets c) p

      kept : (c p : ℕ) → c < k → present c ≡ true → s c p ≡ bit_at (came D packets c) p
      kept c p _ e = refl

module _ (k m l : ℕ) (table : List ℕ) (marks : ℕ) (packets : List ℕ) where
  abbrev D : Desk
  D = desk k m l table marks

  module _ (before : List ℕ) where
    -- accepted, a source has bytes
    pub rebuilt_shaped : Checked (rebuild_checks k m l table marks packets before) 0 → Shaped k m l table
    rebuilt_shaped c =
        shaped k m l table (marked_parts k m l table marks (passed (marked_checks k m l table marks) (rebuild_lent_checks D packets before) (numbered_by (marked_checks k m l table marks) refl) c).0).0

    module _ (number count : ℕ) (after : List ℕ) (number' count' : ℕ) (after' : List ℕ) where
      -- rebuild has one answer
      pub one_rebuilt : Rebuilt k m l table marks packets before number count after
          → Rebuilt k m l table marks packets before number' count' after'
          → (number ≡ number') × (count ≡ count') × (after ≡ after')
      one_rebuilt A B = (same, counts, outputs)
        where
          same : number ≡ number'
          same = checked_once (rebuild_checks k m l table marks packets before) number number' A.numbered B.numbered

          counts : count ≡ count'
          counts = elim (ℕ_discrete number 0) [
            | yes z ↦ one_count D count count' (finishes_ends D count (A.done z).0) (finishes_ends D count' (B.done (sym same ∙ z)).0)
            | no n ↦
                let told = (A.refused n).1 in
                let told' = (B.refused (λ z. n (same ∙ z))).1 in
                elim (ℕ_discrete number 8) [
                  | yes e ↦ one_count D count count' (told.0 e) (told'.0 (sym same ∙ e))
                  | no e ↦ told.1 e ∙ sym (told'.1 (λ f. e (same ∙ f)))
                ]
          ]

          outputs : after ≡ after'
          outputs = elim (ℕ_discrete number 0) [
            | yes z ↦
                let S = rebuilt_shaped (answer_passes (rebuild_checks k m l table marks packets before) number z A) in
                one_source D (source_bytes_low l S.l_low) (desk_short k m l table marks) packets count (A.done z).0 after after' (A.done z).1 (B.done (sym same ∙ z)).1
            | no n ↦ (A.refused n).0 ∙ sym (B.refused (λ z. n (same ∙ z))).0
          ]
