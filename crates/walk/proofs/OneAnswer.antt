-- Two answers that meet the promise of walk or of next step at the same input are equal. Assumes nothing.
use mathlib.Core.Path.{◌≡◌, sym, ap, ◌∙◌}
use mathlib.Core.List.{List}
use Prim.Native.Nat.{ℕ, ◌+◌}
use native.Mathlib.Nat.{le_antisymm}
use native.Mathlib.Omega.{arith}
use lib.ListN.{set}
use lib.Seq.{ext_get_or}
use Rattle.bits.specs.Sums.{at}
use Rattle.table.specs.Desk.{Desk}
use Rattle.table.specs.Checks.{marked_checks}
use Rattle.table.proofs.CheckLaws.{flag_once}
use Rattle.table.proofs.AnswerLaws.{answers_agree, same}
use Rattle.walk.specs.Walk.{Whole, Next, none, one}
use Rattle.walk.specs.Promise.{step_checks, Finished, Walked, Stepped}
use Rattle.walk.proofs.Ends.{finished_ended, one_end, one_count}

pub same_next : {D : Desk} {g after after' : List ℕ} {p s p' s' : ℕ} → Next D g p s after → Next D g p' s' after' → (p ≡ p') × (s ≡ s') × (after ≡ after')
same_next (none u a b c) (none u' a' b' c') = (a ∙ sym a', b ∙ sym b', c ∙ sym c')
same_next (none u a b c) (one x y w a' b' c') = absurd (u x y w.bare)
same_next (one x y w a b c) (none u a' b' c') = absurd (u x y w.bare)
same_next {D} {g} (one x y w a b c) (one x' y' w' a' b' c') =
    let ex : x ≡ x' = le_antisymm (w.parity_low x' y' w'.bare) (w'.parity_low x y w.bare) in
    let ey : y ≡ y' = le_antisymm (w.source_low y' (rw ex w'.bare)) (w'.source_low y (rw ex at w.bare)) in
    (omega arith, omega arith, c ∙ ap (λ (v : ℕ). set g v (at g v + 1)) ey ∙ sym c')

pub same_finished : {D : Desk} {n w n' w' : ℕ} {g g' : List ℕ} → Finished D n w g → Finished D n' w' g' → (n ≡ n') × (w ≡ w') × (g ≡ g')
same_finished {D} {n} {w} {n'} {w'} {g} {g'} f f' =
    let E = finished_ended D f in
    let E' = finished_ended D f' in
    let eg : g ≡ g' = ext_get_or 0 g g' (f.size ∙ sym f'.size) (λ i l. ap (λ (h : ℕ → ℕ). h i) (one_end D n n' E E')) in
    (one_count D n n' E E', flag_once {P = Whole D (at g)} f.flagged (rw eg f'.flagged), eg)

all_same : {a a' u b b' v : ℕ} {c c' w : List ℕ} → (a ≡ u) × (b ≡ v) × (c ≡ w) → (a' ≡ u) × (b' ≡ v) × (c' ≡ w) → (a ≡ a') × (b ≡ b') × (c ≡ c')
all_same e f = (same e.0 f.0, same e.1 f.1, same e.2 f.2)

-- two answers of next step
pub one_step : (k m l : ℕ) (table : List ℕ) (marks : ℕ) (progress : List ℕ) {n p s n' p' s' : ℕ} {g g' : List ℕ}
    → Stepped k m l table marks progress n p s g
    → Stepped k m l table marks progress n' p' s' g'
    → (n ≡ n') × (p ≡ p') × (s ≡ s') × (g ≡ g')
one_step k m l table marks progress {n} {p} {s} {n'} {p'} {s'} {g} {g'} x y =
    let r = answers_agree (step_checks k m l table marks progress) n n' {P = (p ≡ p') × (s ≡ s') × (g ≡ g')} all_same same_next x y in
    (r.0, r.1.0, r.1.1, r.1.2)

-- two answers of walk
pub one_walk : (k m l : ℕ) (table : List ℕ) (marks : ℕ) {n c w n' c' w' : ℕ} {g g' : List ℕ}
    → Walked k m l table marks n c w g
    → Walked k m l table marks n' c' w' g'
    → (n ≡ n') × (c ≡ c') × (w ≡ w') × (g ≡ g')
one_walk k m l table marks {n} {c} {w} {n'} {c'} {w'} {g} {g'} x y =
    let r = answers_agree (marked_checks k m l table marks) n n' {P = (c ≡ c') × (w ≡ w') × (g ≡ g')} all_same same_finished x y in
    (r.0, r.1.0, r.1.1, r.1.2)
