-- Laws of answers: refused by the first checks, decided by those that are left, and one answer only. Assumes nothing.
use mathlib.Core.Path.{◌≡◌, sym, ◌∙◌, subst}
use mathlib.Core.List.{◌++◌}
use Prim.Native.Nat.{ℕ}
use native.Mathlib.Decide.{ℕ_discrete}
use Rattle.table.specs.Checks.{Checks, Checked, Answered}
use Rattle.table.proofs.CheckLaws.{Numbered, checked_once, stops, goes, zero_checked}

-- the first checks refuse
pub answer_stops : (cs ds : Checks) (n number : ℕ) {R D : Type 0} → Checked cs n → (n ≡ 0 → ⊥) → number ≡ n → R → Answered (cs ++ ds) number R D
answer_stops cs ds n number c h e r = record {
  numbered = subst (Checked (cs ++ ds)) (sym e) (stops cs ds n c h);
  refused = λ _. r;
  done = λ z. absurd (h (sym e ∙ z));
}

-- the first checks do not refuse, and those that are left are answered
pub answer_goes : (cs ds : Checks) (number : ℕ) {R D : Type 0} → Numbered cs → Checked cs 0 → Answered ds number R D → Answered (cs ++ ds) number R D
answer_goes cs ds number p c A = record { numbered = goes cs ds number p c A.numbered; refused = A.refused; done = A.done }

-- all checks, and they refuse
pub answer_refused : (cs : Checks) (n number : ℕ) {R D : Type 0} → Checked cs n → (n ≡ 0 → ⊥) → number ≡ n → R → Answered cs number R D
answer_refused cs n number c h e r = record { numbered = subst (Checked cs) (sym e) c; refused = λ _. r; done = λ z. absurd (h (sym e ∙ z)) }

-- all checks, and none refuses
pub answer_done : (cs : Checks) (number : ℕ) {R D : Type 0} → Checked cs 0 → number ≡ 0 → D → Answered cs number R D
answer_done cs number c e d = record { numbered = subst (Checked cs) (sym e) c; refused = λ n. absurd (n e); done = λ _. d }

-- with number 0 no check refuses
pub answer_passes : (cs : Checks) (number : ℕ) {R D : Type 0} → number ≡ 0 → Answered cs number R D → Checked cs 0
answer_passes cs number e A = zero_checked cs number e A.numbered

-- two values that are a third
pub same : {A : Type 0} {x y z : A} → x ≡ z → y ≡ z → x ≡ y
same e f = e ∙ sym f

-- two answers have one number, and both are refused or both are done
pub answers_agree : (cs : Checks) (n n' : ℕ) {R R' D D' P : Type 0} → (R → R' → P) → (D → D' → P) → Answered cs n R D → Answered cs n' R' D' → (n ≡ n') × P
answers_agree cs n n' both-refused both-done A B =
    let e = checked_once cs n n' A.numbered B.numbered in (
      e,
      elim (ℕ_discrete n 0) [
        | yes z ↦ both-done (A.done z) (B.done (sym e ∙ z))
        | no h ↦ both-refused (A.refused h) (B.refused (λ w. h (e ∙ w)))
      ],
    )
