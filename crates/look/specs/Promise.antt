-- What the calls look, hand out and look at promise.
use Rattle.std.specs.Prelude.{◌≡◌, Result, IfOk, List, ◌++◌, ℕ, ◌+◌, ◌-◌, eqb}
use Rattle.std.specs.Borrow.{Bor}
use Rattle.bits.specs.Sums.{pick}
use Rattle.bits.specs.Bits.{slice}
use Rattle.table.specs.Desk.{desk, source_bytes}
use Rattle.table.specs.Checks.{Checks, Answered, shape_checks}
use Rattle.table.specs.Refusals.{told}
use Rattle.table.specs.declared.refusals.Refusal.{Refusal}
use Rattle.look.specs.Stages.{Stands, found_checks}

-- 1 2 3 6 7 4 4
abbrev pub look_checks : ℕ → ℕ → ℕ → List ℕ → ℕ → ℕ → List ℕ → List ℕ → Checks
look_checks k m l table marks source survivors rebuilt =
    shape_checks k m l table ++ found_checks (desk k m l table marks) marks source survivors rebuilt

-- Look at: its number; refused, buffer, start and length 0; else where the source of that number, from 1, stands.
abbrev pub LookedAt : ℕ → ℕ → ℕ → List ℕ → ℕ → ℕ → List ℕ → List ℕ → ℕ → ℕ → ℕ → ℕ → Type 0
LookedAt k m l table marks source survivors rebuilt number buffer start length =
    Answered (look_checks k m l table marks source survivors rebuilt) number
    ((buffer ≡ 0) × (start ≡ 0) × (length ≡ 0))
    (Stands (desk k m l table marks) (source - 1) buffer start × (length ≡ source_bytes l))

-- r is no copy: it points into s, at byte a, and shows its n bytes from there
pub record PartOf (s : Bor (List ℕ)) (a n : ℕ) (r : Bor (List ℕ)) : Type 0 where
  pub block : r.ref_ptr.0 ≡ s.ref_ptr.0
  pub place : r.ref_ptr.1 ≡ s.ref_ptr.1 + a
  pub bytes : r.now ≡ slice s.now a n

-- Look: the part that look at tells, of the rebuilt sources where the buffer is 2, else of the survivors; so refused, the empty part at their start.
pub record Looked (k m l : ℕ) (table : List ℕ) (marks source : ℕ) (survivors rebuilt r : Bor (List ℕ)) : Type 0 where
  pub number : ℕ
  pub buffer : ℕ
  pub start : ℕ
  pub length : ℕ
  pub told : LookedAt k m l table marks source survivors.now rebuilt.now number buffer start length
  pub part : PartOf (pick (eqb buffer 2) rebuilt survivors) start length r

-- Hand out: the number that look at tells; not refused, the part that it tells, of the rebuilt sources where the buffer is 2, else of the survivors.
pub record HandedOut (k m l : ℕ) (table : List ℕ) (marks source : ℕ) (survivors rebuilt : Bor (List ℕ)) (r : Result (Bor (List ℕ)) Refusal) : Type 0 where
  pub buffer : ℕ
  pub start : ℕ
  pub length : ℕ
  pub told : LookedAt k m l table marks source survivors.now rebuilt.now (told r) buffer start length
  pub part : IfOk r (PartOf (pick (eqb buffer 2) rebuilt survivors) start length)
