-- Two answers that meet the promise of check steps at the same input are equal. Assumes nothing.
use mathlib.Core.Path.{◌≡◌, sym, subst}
use mathlib.Core.List.{List}
use Prim.Native.Nat.{ℕ}
use native.Mathlib.Decide.{ℕ_discrete}
use Rattle.table.specs.Desk.{Desk}
use Rattle.table.proofs.CheckLaws.{checked_once}
use Rattle.table.proofs.AnswerLaws.{answers_agree, same}
use Rattle.steps.specs.Promise.{step_list_checks, PlaceTold, StepsChecked}
use Rattle.steps.proofs.StepLaws.{first_bad_once}

-- one number has one place
place_once : {D : Desk} {parities sources : List ℕ} {number place place' : ℕ}
    → PlaceTold D parities sources number place
    → PlaceTold D parities sources number place'
    → place ≡ place'
place_once {D} {parities} {sources} {number} {place} {place'} x y = elim (ℕ_discrete number 23) [
  | yes e ↦ first_bad_once D parities sources place place' (x.bad e) (y.bad e)
  | no bad ↦ elim (ℕ_discrete number 24) [
    | yes e ↦ same (x.early e) (y.early e)
    | no early ↦ same (x.nowhere bad early) (y.nowhere bad early)
  ]
]

-- two answers of check steps
pub one_checked : (k m l : ℕ) (table : List ℕ) (marks : ℕ) (parities sources : List ℕ) {n p n' p' : ℕ}
    → StepsChecked k m l table marks parities sources n p
    → StepsChecked k m l table marks parities sources n' p'
    → (n ≡ n') × (p ≡ p')
one_checked k m l table marks parities sources {n} {p} {n'} {p'} x y =
    let cs = step_list_checks k m l table marks parities sources in
    let e = checked_once cs n n' x.numbered y.numbered in
    let z = subst (λ (i : ℕ). StepsChecked k m l table marks parities sources i p') (sym e) y in
    (e, (answers_agree cs n n {P = p ≡ p'} place_once (λ a b. same a.1 b.1) x z).1)
