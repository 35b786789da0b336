-- Two answers that meet a call's promise at the same input are the same, for each call that prints a piece.
use mathlib.Core.Path.{◌≡◌, refl, sym, ap, subst, ◌∙◌}
use mathlib.Core.Logic.{inl, inr}
use mathlib.Core.List.{List}
use Prim.Native.Nat.{ℕ, ◌≤◌}
use native.Mathlib.Omega.{arith}
use native.Mathlib.Decide.{dec_lt}
use lib.ListN.{length}
use Rattle.std.specs.Prelude.{Option, Some, None, IfSome}
use Rattle.choices.proofs.Successors.{one_held}
use Rattle.sheet.specs.Printing.{choice_text, room}
use Rattle.sheet.specs.Steps.{WalkOf}
use Rattle.sheet.specs.Given.{count_of}
use Rattle.sheet.specs.Promise.{Printed, RowOf, NoRow, RowPrinted}
use Rattle.sheet.proofs.Rows.{one_walk_of}

-- header and refusal
pub one_printed : (text before : List ℕ) {count count' : ℕ} {after after' : List ℕ} → Printed text before count after → Printed text before count' after'
    → (count ≡ count') × (after ≡ after')
one_printed text before x y = elim (dec_lt (length before) room) [
  | yes l ↦ (let a = x.short l in let b = y.short l in (a.0 ∙ sym b.0, a.1 ∙ sym b.1))
  | no l ↦ (let a = x.done (omega arith) in let b = y.done (omega arith) in (a.0 ∙ sym b.0, a.1 ∙ sym b.1))
]

-- the answer of header, refusal and row itself, which is nothing or a count of at least 1
pub one_piece : (r r' : Option ℕ) → IfSome r (λ n. 1 ≤ n) → IfSome r' (λ n. 1 ≤ n) → count_of r ≡ count_of r' → r ≡ r'
one_piece (Some n) (Some n') x y e = ap Some e
one_piece (Some n) None x y e = absurd (omega (arith, x, e))
one_piece None (Some n') x y e = absurd (omega (arith, y, e))
one_piece None None x y e = refl

module _ (k m l : ℕ) (held : List ℕ) where
  -- a choice that is held has one line
  pub one_row_of : (text text' : List ℕ) → RowOf k m l held text → RowOf k m l held text' → text ≡ text'
  one_row_of text text' x y =
      let e = one_held k m held y.was x.was in
      let c = (one_walk_of k m l x.ids x.counted (subst (λ u. WalkOf k m l u 0 y.count) e y.counted)).1 in
      x.text_is ∙ ap (choice_text x.ids) c ∙ ap (λ u. choice_text u y.count) (sym e) ∙ sym y.text_is

  row_or_none : (text : List ℕ) → RowOf k m l held text → NoRow k m l held → ⊥
  row_or_none text x (inl n) = n x.ids x.was
  row_or_none text x (inr n) = n.5 (one_walk_of k m l x.ids (subst (λ u. WalkOf k m l u n.1 n.2) (one_held k m held n.3 x.was) n.4) x.counted).0

  -- row
  pub one_row : (before : List ℕ) {count count' : ℕ} {after after' : List ℕ} → RowPrinted k m l held before count after → RowPrinted k m l held before count' after'
      → (count ≡ count') × (after ≡ after')
  one_row before {count' = count'} {after' = after'} (inl x) (inl y) =
      one_printed x.0 before x.2 (subst (λ t. Printed t before count' after') (one_row_of y.0 x.0 y.1 x.1) y.2)
  one_row before (inl x) (inr y) = absurd (row_or_none x.0 x.1 y.0)
  one_row before (inr x) (inl y) = absurd (row_or_none y.0 y.1 x.0)
  one_row before (inr x) (inr y) = (x.1 ∙ sym y.1, x.2 ∙ sym y.2)
