-- The walk of a choice is one: one house table, one set of marks, one count.
use mathlib.Core.Path.{◌≡◌, refl, sym, subst, ◌∙◌}
use mathlib.Core.Logic.{inl, inr}
use mathlib.Core.Bool.{true, false, true≢false}
use mathlib.Core.List.{List, [], ◌∷◌, ◌++◌, append_assoc}
use Prim.Native.Nat.{ℕ, ◌*◌, ◌≤◌}
use native.Mathlib.Omega.{arith}
use lib.ListN.{length, take}
use borrow.Author.Tests.{eqb-true, eqb-false}
use Rattle.bits.specs.Bits.{bit}
use Rattle.bits.proofs.BitLaws.{bit_lt, bit_ext}
use Rattle.text.specs.Text.{space, line_feed}
use Rattle.table.specs.Desk.{mark}
use Rattle.table.specs.Checks.{Checked, size_checks, family_number_checks, output_checks}
use Rattle.family.specs.Promise.{HouseTable, FamilyWritten, family_checks}
use Rattle.table.proofs.CheckLaws.{numbered_by, checked_once, goes, inside}
use Rattle.walk.specs.Promise.{Walked}
use Rattle.walk.proofs.OneAnswer.{one_walk}
use Rattle.family.proofs.FamilyTables.{family_once}
use Rattle.choices.specs.Promise.{Holding}
use Rattle.choices.proofs.Successors.{held-take}
use Rattle.sheet.specs.Printing.{choice_text}
use Rattle.sheet.specs.Steps.{Marked, WalkOf}
use Rattle.sheet.specs.Promise.{RowOf, RowPrinted}
use Rattle.sheet.proofs.Writings.{printed_fits}

-- where the size is right and the room exact, the family call writes the house table for family 1
pub house-written : (k m : ℕ) (before after : List ℕ) {number : ℕ} → Checked (size_checks k m) 0 → length before ≡ m * k → FamilyWritten k m 1 before number after → HouseTable k m after
house-written k m before after {number} c l f =
    let size = size_checks k m in
    let rest = family_number_checks 1 ++ output_checks (m * k) before in
    f.done (checked_once (family_checks k m 1 before) number 0 f.numbered (goes size rest 0 (numbered_by size refl) c (inr (inside (omega arith) (omega arith), inr (λ n. n l, refl)))))

pub one_marks : (ids : List ℕ) (marks marks' : ℕ) → Marked ids marks → Marked ids marks' → marks ≡ marks'
unfolding bit
one_marks ids marks marks' h h' = bit_ext marks marks' (λ j. go (mark marks j) (mark marks' j) j refl refl (h j ∙ sym (h' j)))
  where
    go : (v w : _) (j : ℕ) → mark marks j ≡ v → mark marks' j ≡ w → mark marks j ≡ mark marks' j → bit marks j ≡ bit marks' j
    go true true j p q e = eqb-true (bit marks j) 1 p ∙ sym (eqb-true (bit marks' j) 1 q)
    go true false j p q e = absurd (true≢false (sym p ∙ e ∙ q))
    go false true j p q e = absurd (true≢false (sym q ∙ sym e ∙ p))
    go false false j p q e = omega (arith, bit_lt marks j, bit_lt marks' j, eqb-false (bit marks j) 1 p, eqb-false (bit marks' j) 1 q)

-- two walks of a choice give the same number and the same count
pub one_walk_of : (k m l : ℕ) (ids : List ℕ) {n c n' c' : ℕ} → WalkOf k m l ids n c → WalkOf k m l ids n' c' → (n ≡ n') × (c ≡ c')
one_walk_of k m l ids {n' = n'} {c' = c'} x y =
    let t : y.table ≡ x.table = family_once 1 k m y.table x.table y.house x.house in
    let s : y.marks ≡ x.marks = one_marks ids y.marks x.marks y.marked x.marked in
    let one_table = subst (λ u. Walked k m l u y.marks n' c' y.whole y.progress) t y.walked in
    let both = subst (λ u. Walked k m l x.table u n' c' y.whole y.progress) s one_table in
    let same = one_walk k m l x.table x.marks x.walked both in
    (same.0, same.1)

module _ (k m l : ℕ) (held : List ℕ) where
  -- the line of a choice that is held
  pub row_of : {ids : List ℕ} {count : ℕ} → Holding k m held ids → WalkOf k m l (take k held) 0 count → RowOf k m l held (choice_text (take k held) count)
  row_of {count = count} h w = record { ids = take k held; was = subst (Holding k m held) (held-take k m held h).0 h; count = count; counted = w; text_is = refl }

-- the parts of a line, one after another
pub line_parts : (a n : List ℕ) → a ++ space ∷ [] ++ n ++ line_feed ∷ [] ≡ a ++ space ∷ (n ++ line_feed ∷ [])
line_parts a n = append_assoc (a ++ space ∷ []) n (line_feed ∷ []) ∙ append_assoc a (space ∷ []) (n ++ line_feed ∷ [])

pub row_fits : (k m l : ℕ) (held before : List ℕ) (count : ℕ) (after : List ℕ) → RowPrinted k m l held before count after → length after ≡ length before → count ≤ length after
row_fits k m l held before count after (inl p) e = printed_fits p.0 before count after p.2 e
row_fits k m l held before count after (inr p) e = omega (arith, p.1)
