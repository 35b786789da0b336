-- A look has one answer: one number, one place, and one part of the lent buffers. Assumes nothing.
use mathlib.Core.Path.{◌≡◌, sym, ap₂, ◌∙◌}
use mathlib.Core.Logic.{inl, inr}
use mathlib.Core.Bool.{true≢false}
use mathlib.Core.List.{List}
use Prim.Native.Nat.{ℕ, ◌-◌}
use lib.Dec.{eqb}
use denote.Ref.{Bor}
use Rattle.std.specs.Prelude.{Result, Ok}
use Rattle.bits.specs.Sums.{pick}
use Rattle.table.specs.Desk.{Desk, desk}
use Rattle.table.specs.Refusals.{told}
use Rattle.table.specs.declared.refusals.Refusal.{Refusal}
use Rattle.table.proofs.AnswerLaws.{answers_agree}
use Rattle.look.specs.Stages.{Stands}
use Rattle.look.specs.Promise.{LookedAt, Looked, HandedOut, PartOf, look_checks}
use Rattle.look.proofs.LookLaws.{handed_looked}

stands_once : (D : Desk) (i b b' s s' : ℕ) → Stands D i b s → Stands D i b' s' → (b ≡ b') × (s ≡ s')
stands_once D i b b' s s' (inl x) (inl y) = (x.1 ∙ sym y.1, x.2 ∙ sym y.2)
stands_once D i b b' s s' (inl x) (inr y) = absurd (true≢false (sym x.0 ∙ y.0))
stands_once D i b b' s s' (inr x) (inl y) = absurd (true≢false (sym y.0 ∙ x.0))
stands_once D i b b' s s' (inr x) (inr y) = (x.1 ∙ sym y.1, x.2 ∙ sym y.2)

part_once : (s : Bor (List ℕ)) (a n : ℕ) (r r' : Bor (List ℕ)) → PartOf s a n r → PartOf s a n r' → (r.ref_ptr ≡ r'.ref_ptr) × (r.now ≡ r'.now)
part_once s a n r r' p q =
    (ap₂ (λ x y. (x, y)) (p.block ∙ sym q.block) (p.place ∙ sym q.place), p.bytes ∙ sym q.bytes)

module _ (k m l : ℕ) (table : List ℕ) (marks source : ℕ) where
  pub one_place : (survivors rebuilt : List ℕ) {n n' b b' s s' z z' : ℕ}
      → LookedAt k m l table marks source survivors rebuilt n b s z → LookedAt k m l table marks source survivors rebuilt n' b' s' z'
      → (n ≡ n') × (b ≡ b') × (s ≡ s') × (z ≡ z')
  one_place survivors rebuilt {n} {n'} {b} {b'} {s} {s'} {z} {z'} x y =
      let r = answers_agree (look_checks k m l table marks source survivors rebuilt) n n' {P = (b ≡ b') × (s ≡ s') × (z ≡ z')}
      (λ p q. (p.0 ∙ sym q.0, p.1 ∙ sym q.1, p.2 ∙ sym q.2))
      (λ p q. let w = stands_once (desk k m l table marks) (source - 1) b b' s s' p.0 q.0 in (w.0, w.1, p.1 ∙ sym q.1)) x y in
      (r.0, r.1.0, r.1.1, r.1.2)

  -- no two parts: both point at the same byte of the same buffer, and show the same bytes
  pub one_part : (survivors rebuilt r r' : Bor (List ℕ))
      → Looked k m l table marks source survivors rebuilt r → Looked k m l table marks source survivors rebuilt r' → (r.ref_ptr ≡ r'.ref_ptr) × (r.now ≡ r'.now)
  one_part survivors rebuilt r r' x y =
      let e = one_place survivors.now rebuilt.now x.told y.told in
      part_once (pick (eqb x.buffer 2) rebuilt survivors) x.start x.length r r' x.part (rw (e.1, e.2, e.3) y.part)

  -- the same of what is handed out
  pub one_part_by_hand_out : (survivors rebuilt r r' : Bor (List ℕ))
      → HandedOut k m l table marks source survivors rebuilt (Ok r) → HandedOut k m l table marks source survivors rebuilt (Ok r') → (r.ref_ptr ≡ r'.ref_ptr) × (r.now ≡ r'.now)
  one_part_by_hand_out survivors rebuilt r r' x y = one_part survivors rebuilt r r' (handed_looked x) (handed_looked y)

  -- and one number, refused or not
  pub one_number : (survivors rebuilt : Bor (List ℕ)) (r r' : Result (Bor (List ℕ)) Refusal)
      → HandedOut k m l table marks source survivors rebuilt r → HandedOut k m l table marks source survivors rebuilt r' → told r ≡ told r'
  one_number survivors rebuilt r r' x y = (one_place survivors.now rebuilt.now x.told y.told).0
