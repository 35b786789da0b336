-- Laws of an opened call: from its checks to its desk. Assumes nothing.
use mathlib.Core.Path.{◌≡◌, sym, ap, ◌∙◌, subst}
use mathlib.Core.List.{List, ◌++◌}
use Prim.Native.Nat.{ℕ, ◌+◌, ◌/◌, ◌^◌}
use borrow.Author.Rules.{rules}
use Rattle.std.specs.Prelude.{Err}
use Rattle.table.specs.Desk.{Desk, desk, entry, mark, source_bits, source_bytes}
use Rattle.table.specs.Desks.{Stands, Ready, desk_of}
use Rattle.table.specs.Checks.{Checks, Checked, Answered, marked_checks}
use Rattle.table.specs.Refusals.{number_of}
use Rattle.table.specs.declared.desks.Desk as laid
use Rattle.table.specs.declared.refusals.Refusal.{Refusal}
use Rattle.table.proofs.CheckLaws.{Numbered, stops}
use Rattle.table.proofs.AnswerLaws.{answer_goes}
use Rattle.table.proofs.RefusalLaws.{numbered, refused_stops}
use Rattle.table.proofs.ShapeLaws.{marked_below}
use Rattle.checks.specs.Opening.{Opens}

-- a refused call was given no desk
pub opens_refused : {cs : Checks} {k m l : ℕ} {table : List ℕ} {marks : ℕ} (e : Refusal) → Checked cs (number_of e) → Opens cs k m l table marks (Err e)
opens_refused e c = record { numbered = c; accepted = λ o z. absurd (search rules) }

-- the checks, and those after them, of a call that is refused
module _ {cs : Checks} {k m l : ℕ} {table : List ℕ} {marks : ℕ} (e : Refusal) (O : Opens cs k m l table marks (Err e)) where
  -- refused with its shape
  pub opened_stops : (ds : Checks) {R D : Type 0} → R → Answered (cs ++ ds) (number_of e) R D
  opened_stops ds x = refused_stops cs ds e O.numbered x

  -- more checks: none is asked after a refusal
  pub opens_stops : (ds : Checks) → Opens (cs ++ ds) k m l table marks (Err e)
  opens_stops ds = record { numbered = stops cs ds (number_of e) O.numbered (numbered e); accepted = λ o z. O.accepted o z }

module _ {k m l : ℕ} {table : List ℕ} {marks : ℕ} {d : laid.Desk} (S : Stands k m l table marks d) where
  -- what holds of the desk's numbers and marks holds of the call's
  pub of_numbers : (P : ℕ → ℕ → ℕ → ℕ → Type 0) → P d.k d.m d.length d.marks → P k m l marks
  of_numbers P x =
      subst (λ n. P n m l marks) S.k_is
      (subst (λ n. P d.k n l marks) S.m_is (subst (λ n. P d.k d.m n marks) S.length_is (subst (λ n. P d.k d.m d.length n) S.marks_are x)))

  -- an accepted call's desk is that of its numbers, table and marks
  pub desk_opened : desk_of d ≡ desk k m l table marks
  desk_opened =
      of_numbers (λ k' m' l' marks'. desk_of d ≡ desk k' m' l' table marks')
      (ap (λ f. record { k = d.k; m = d.m; bits = source_bits d.length; bytes = source_bytes d.length; shift = f; present = mark d.marks }) (S.shifts_are ∙ ap (λ n. entry n table) (sym S.k_is)))

  -- what holds of the opened marks and desk holds of the call's
  pub at-desk : (P : ℕ → Desk → Type 0) → P d.marks (desk_of d) → P marks (desk k m l table marks)
  at-desk P x = subst (λ n. P n (desk k m l table marks)) S.marks_are (subst (P d.marks) desk_opened x)

  -- accepted, and what is left is answered over the opened desk
  pub opened_goes : (cs : Checks) → Numbered cs → Checked cs 0 → (ds : ℕ → Desk → Checks) (R D : Desk → Type 0) (number : ℕ)
      → Answered (ds d.marks (desk_of d)) number (R (desk_of d)) (D (desk_of d))
      → Answered (cs ++ ds marks (desk k m l table marks)) number (R (desk k m l table marks)) (D (desk k m l table marks))
  opened_goes cs p c ds R D number x = answer_goes cs (ds marks (desk k m l table marks)) number p c (at-desk (λ y E. Answered (ds y E) number (R E) (D E)) x)

  -- accepted with its marks, no mark stands above the packets
  pub opened_ready : Checked (marked_checks k m l table marks) 0 → Ready d
  opened_ready c =
      subst (λ n. n / 2 ^ (d.k + d.m) ≡ 0) (sym S.marks_are)
      (subst (λ n. marks / 2 ^ (n + d.m) ≡ 0) (sym S.k_is) (subst (λ n. marks / 2 ^ (k + n) ≡ 0) (sym S.m_is) (marked_below k m l table marks c)))
