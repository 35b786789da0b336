-- The desk of the code, and what it stands for.
use Rattle.std.specs.Prelude.{◌≡◌, List, ℕ, ◌+◌, ◌/◌, ◌^◌, length}
use Rattle.table.specs.Desk.{Desk, entry, mark, source_bits, source_bytes, survivors_bytes}
use Rattle.table.specs.Table.{laid_out}
use Rattle.table.specs.declared.desks.Desk as laid

-- the desk that the code's stands for
abbrev pub desk_of : laid.Desk → Desk
desk_of d =
    record {
      k = d.k;
      m = d.m;
      bits = source_bits d.length;
      bytes = source_bytes d.length;
      shift = laid_out d.k d.shifts;
      present = mark d.marks;
    }

-- it has a call's numbers and marks, and the shifts of its table
pub record Stands (k m l : ℕ) (table : List ℕ) (marks : ℕ) (d : laid.Desk) : Type 0 where
  pub k_is : d.k ≡ k
  pub m_is : d.m ≡ m
  pub length_is : d.length ≡ l
  pub marks_are : d.marks ≡ marks
  pub shifts_are : laid_out d.k d.shifts ≡ entry k table

-- d' is d with these marks
pub record Remarked (marks : ℕ) (d d' : laid.Desk) : Type 0 where
  pub k_is : d'.k ≡ d.k
  pub m_is : d'.m ≡ d.m
  pub length_is : d'.length ≡ d.length
  pub marks_are : d'.marks ≡ marks
  pub shifts_are : d'.shifts ≡ d.shifts

-- no mark above the packets is set
abbrev pub Ready : laid.Desk → Type 0
Ready d = d.marks / 2 ^ (d.k + d.m) ≡ 0

-- the packets are as long as those at hand
abbrev pub Survivors : laid.Desk → List ℕ → Type 0
Survivors d packets = length packets ≡ survivors_bytes (desk_of d)
