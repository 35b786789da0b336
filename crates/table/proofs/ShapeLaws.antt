-- What it says that the checks of a shape pass. Assumes nothing.
use mathlib.Core.Path.{◌≡◌, refl}
use mathlib.Core.List.{List, ◌++◌}
use Prim.Native.Nat.{ℕ, ◌+◌, ◌*◌, ◌/◌, ◌^◌, ◌≤◌}
use lib.ListN.{length}
use Rattle.bits.specs.Sums.{at, count}
use Rattle.table.specs.Limits.{max_k, max_m, max_length, max_shift}
use Rattle.table.specs.Desk.{mark}
use Rattle.table.specs.Checks.{Checked, asked, size_checks, length_checks, table_checks, shape_checks, marks_checks, marked_checks}
use Rattle.table.proofs.MarkLaws.{none_left}
use Rattle.table.proofs.CheckLaws.{numbered_by, goes, passed, sized, lengthed, tabled, counted, none_above}

-- an accepted shape
pub record Shaped (k m l : ℕ) (table : List ℕ) : Type 0 where
  pub k_low : 1 ≤ k
  pub k_high : k ≤ max_k
  pub m_low : 1 ≤ m
  pub m_high : m ≤ max_m
  pub l_low : 1 ≤ l
  pub l_high : l ≤ max_length
  pub size : length table ≡ m * k
  pub low : (i : ℕ) → at table i ≤ max_shift

module _ (k m l : ℕ) (table : List ℕ) where
  parts : Checked (shape_checks k m l table) 0 → Checked (size_checks k m) 0 × Checked (length_checks l) 0 × Checked (table_checks k m table) 0
  parts c =
      let p = passed (size_checks k m) (length_checks l ++ table_checks k m table) (numbered_by (size_checks k m) refl) c in
      let q = passed (length_checks l) (table_checks k m table) (numbered_by (length_checks l) refl) p.1 in
      (p.0, q.0, q.1)

  pub shaped : Checked (shape_checks k m l table) 0 → Shaped k m l table
  shaped c =
      let p = parts c in
      let z = sized k m p.0 in
      let w = lengthed l p.1 in
      let t = tabled k m table p.2 in
      record { k_low = z.k_low; k_high = z.k_high; m_low = z.m_low; m_high = z.m_high; l_low = w.0; l_high = w.1; size = t.0; low = t.1 }

  -- the checks of a table alone
  pub without_length : Checked (shape_checks k m l table) 0 → Checked (size_checks k m ++ table_checks k m table) 0
  without_length c = let p = parts c in goes (size_checks k m) (table_checks k m table) 0 (numbered_by (size_checks k m) refl) p.0 p.2

  pub marked_parts : (marks : ℕ) → Checked (marked_checks k m l table marks) 0 → Checked (shape_checks k m l table) 0 × Checked (marks_checks k m marks) 0
  marked_parts marks c = passed (shape_checks k m l table) (marks_checks k m marks) (numbered_by (shape_checks k m l table) refl) c

  -- accepted marks are exactly as many as are asked for
  pub marked_count : (marks : ℕ) → Checked (marked_checks k m l table marks) 0 → count (k + m) (mark marks) ≡ asked k
  marked_count marks c = counted k m marks (marked_parts marks c).1

  -- and all below n
  pub marked_below : (marks : ℕ) → Checked (marked_checks k m l table marks) 0 → marks / 2 ^ (k + m) ≡ 0
  marked_below marks c = none_left (k + m) marks (none_above k m marks (marked_parts marks c).1)
