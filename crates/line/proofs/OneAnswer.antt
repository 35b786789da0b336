-- Two answers that meet the line reader's promise at the same input are the same.
use mathlib.Core.Path.{◌≡◌, sym, ◌∙◌}
use mathlib.Core.List.{List}
use Prim.Native.Nat.{ℕ}
use Rattle.table.proofs.AnswerLaws.{answers_agree}
use Rattle.line.specs.Promise.{sheet_checks, LineRead}
use Rattle.line.proofs.Lines.{one_line}

-- read
pub one_read : (input : List ℕ) {number k m l number' k' m' l' : ℕ} → LineRead (sheet_checks input) input number k m l → LineRead (sheet_checks input) input number' k' m' l'
    → (number ≡ number') × (k ≡ k') × (m ≡ m') × (l ≡ l')
one_read input {number} {k} {m} {l} {number'} {k'} {m'} {l'} x y =
    let r = answers_agree (sheet_checks input) number number' {P = (k ≡ k') × (m ≡ m') × (l ≡ l')}
    (λ p q. (p.0 ∙ sym q.0, p.1 ∙ sym q.1, p.2 ∙ sym q.2)) one_line x y in
    (r.0, r.1.0, r.1.1, r.1.2)
