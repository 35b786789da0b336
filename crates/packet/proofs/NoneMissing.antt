-- With no source missing packet gives none of 8, 9 and 10. Assumes nothing.
use mathlib.Core.Path.{◌≡◌, refl}
use mathlib.Core.Bool.{true}
use mathlib.Core.List.{List, ◌++◌}
use Prim.Native.Nat.{ℕ, ◌+◌, ◌-◌, ◌≤◌, ◌<◌}
use native.Mathlib.Omega.{arith}
use native.Mathlib.Decide.{dec_lt}
use Rattle.bits.specs.Bits.{Bytes}
use Rattle.table.specs.Desk.{Desk, desk, mark, packet_bytes, survivors_bytes}
use Rattle.table.specs.Checks.{shape_checks, asked_checks}
use Rattle.table.proofs.CheckLaws.{numbered_by, below_by, checked_once, passed, from_later, asked_parts, lengths_exact}
use Rattle.rebuild.specs.Stages.{decode_checks}
use Rattle.rebuild.proofs.NoneMissing.{none_refused}
use Rattle.packet.specs.Stages.{wanted_lengths_checks}
use Rattle.packet.specs.Promise.{PacketMade}

module _ (k m l : ℕ) (table : List ℕ) (marks : ℕ) (packets : List ℕ) (here : (c : ℕ) → c < k → mark marks c ≡ true) where
  abbrev D : Desk
  D = desk k m l table marks

  pub none_missing_made : Bytes packets → (wanted : ℕ) (before : List ℕ) (number : ℕ) (after : List ℕ) → PacketMade k m l table marks packets wanted before number after → number < 8
  none_missing_made hp wanted before number after R = elim (dec_lt number 8) [ yes h ↦ h | no h ↦ absurd (late (omega arith)) ]
    where
      late : 8 ≤ number → ⊥
      late h =
          let named = asked_checks k m marks (k + m) wanted in
          let lengths = wanted_lengths_checks D packets (wanted - 1) before in
          let front = shape_checks k m l table ++ named ++ lengths in
          let w = from_later 8 front (decode_checks D packets) number h (below_by 8 front refl) R.numbered in
          let p = passed (shape_checks k m l table) (named ++ lengths) (numbered_by (shape_checks k m l table) refl) w.0 in
          let q = passed named lengths (numbered_by named refl) p.1 in
          let len = (lengths_exact (survivors_bytes D) (packet_bytes D (wanted - 1)) packets before q.1).0 in
          omega (arith, checked_once (decode_checks D packets) number 0 w.1 (none_refused k m l table marks packets here hp (asked_parts k m marks (k + m) wanted q.0).0 len))
