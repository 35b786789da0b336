-- Two answers that meet packet's promise at the same input are equal. Assumes nothing.
use mathlib.Core.Path.{◌≡◌, sym, ap, ◌∙◌}
use mathlib.Core.List.{List}
use Prim.Native.Nat.{ℕ, ◌-◌}
use native.Mathlib.Decide.{ℕ_discrete}
use Rattle.table.specs.Desk.{Desk, desk}
use Rattle.table.proofs.CheckLaws.{checked_once}
use Rattle.table.proofs.AnswerLaws.{answer_passes}
use Rattle.table.proofs.ShapeLaws.{shaped}
use Rattle.table.proofs.PacketLaws.{source_bytes_low}
use Rattle.code.specs.Code.{packet_of}
use Rattle.code.proofs.CodeLaws.{desk_short}
use Rattle.rebuild.proofs.OneAnswer.{decoded_finishes, one_source}
use Rattle.packet.specs.Promise.{wanted_checks, PacketMade}
use Rattle.packet.proofs.CheckParts.{made_parts}

module _ (k m l : ℕ) (table : List ℕ) (marks : ℕ) (packets : List ℕ) (wanted : ℕ) (before : List ℕ) where
  abbrev D : Desk
  D = desk k m l table marks

  -- packet has one answer
  pub one_packet_made : (number : ℕ) (after : List ℕ) (number' : ℕ) (after' : List ℕ)
      → PacketMade k m l table marks packets wanted before number after
      → PacketMade k m l table marks packets wanted before number' after'
      → (number ≡ number') × (after ≡ after')
  one_packet_made number after number' after' A B = (same, outputs)
    where
      same : number ≡ number'
      same = checked_once (wanted_checks k m l table marks packets wanted before) number number' A.numbered B.numbered

      outputs : after ≡ after'
      outputs = elim (ℕ_discrete number 0) [
        | yes z ↦
            let c = made_parts k m l table marks packets wanted before (answer_passes (wanted_checks k m l table marks packets wanted before) number z A) in
            let F = decoded_finishes D packets c.3 in
            let x = A.done z in
            let y = B.done (sym same ∙ z) in
            let some = source_bytes_low l (shaped k m l table c.0).l_low in
            let one = one_source D some (desk_short k m l table marks) packets F.0 F.1 x.0 y.0 x.1 y.1 in
            x.2 ∙ ap (λ (v : List ℕ). packet_of D v (wanted - 1)) one ∙ sym y.2
        | no n ↦ A.refused n ∙ sym (B.refused (λ z. n (same ∙ z)))
      ]
