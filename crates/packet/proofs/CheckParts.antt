-- The checks of packet, taken apart and put together. Assumes nothing.
use mathlib.Core.Path.{◌≡◌, refl}
use mathlib.Core.Logic.{inr}
use mathlib.Core.List.{List}
use Prim.Native.Nat.{ℕ, ◌+◌, ◌-◌, ◌≤◌}
use lib.ListN.{length}
use Rattle.table.specs.Desk.{Desk, desk, packet_bytes, survivors_bytes}
use Rattle.table.specs.Checks.{Checked, shape_checks, marks_checks, asked_checks, input_checks, output_checks}
use Rattle.table.proofs.CheckLaws.{numbered_by, passed, goes, exactly_long, inside, asked_goes}
use Rattle.rebuild.specs.Stages.{decode_checks}
use Rattle.packet.specs.Stages.{wanted_lengths_checks, wanted_lent_checks, wanted_named_checks}
use Rattle.packet.specs.Promise.{wanted_checks}

module _ (k m l : ℕ) (table : List ℕ) (marks : ℕ) (packets : List ℕ) (wanted : ℕ) (before : List ℕ) where
  abbrev D : Desk
  D = desk k m l table marks

  -- where none refuses, none of any part does
  pub made_parts : Checked (wanted_checks k m l table marks packets wanted before) 0
      → Checked (shape_checks k m l table) 0 × Checked (asked_checks k m marks (k + m) wanted) 0 × Checked (wanted_lengths_checks D packets (wanted - 1) before) 0 × Checked (decode_checks D packets) 0
  made_parts c =
      let p = passed (shape_checks k m l table) (wanted_named_checks D packets marks wanted before) (numbered_by (shape_checks k m l table) refl) c in
      let q = passed (asked_checks k m marks (k + m) wanted) (wanted_lent_checks D packets (wanted - 1) before) (numbered_by (asked_checks k m marks (k + m) wanted) refl) p.1 in
      let r = passed (wanted_lengths_checks D packets (wanted - 1) before) (decode_checks D packets) (numbered_by (wanted_lengths_checks D packets (wanted - 1) before) refl) q.1 in
      (p.0, q.0, r.0, r.1)

  -- where none in front of 8, 9 and 10 refuses, these decide
  pub decoding_decides : Checked (shape_checks k m l table) 0
      → Checked (marks_checks k m marks) 0
      → 1 ≤ wanted
      → wanted ≤ k + m
      → length packets ≡ survivors_bytes D
      → length before ≡ packet_bytes D (wanted - 1)
      → (number : ℕ)
      → Checked (decode_checks D packets) number
      → Checked (wanted_checks k m l table marks packets wanted before) number
  decoding_decides accepted marked low high long room number decoded =
      let shape = shape_checks k m l table in
      let asked = asked_checks k m marks (k + m) wanted in
      let input = input_checks (survivors_bytes D) packets in
      let output = output_checks (packet_bytes D (wanted - 1)) before in
      let sizes = wanted_lengths_checks D packets (wanted - 1) before in
      let lengths = goes input output 0 (numbered_by input refl) (exactly_long 4 (survivors_bytes D) packets long) (exactly_long 5 (packet_bytes D (wanted - 1)) before room) in
      let lent = goes sizes (decode_checks D packets) number (numbered_by sizes refl) lengths decoded in
      let one = asked_goes k m marks (k + m) wanted 0 (inr (inside low high, refl)) marked in
      let named = goes asked (wanted_lent_checks D packets (wanted - 1) before) number (numbered_by asked refl) one lent in
      goes shape (wanted_named_checks D packets marks wanted before) number (numbered_by shape refl) accepted named
