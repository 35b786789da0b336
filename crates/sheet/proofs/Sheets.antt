-- The whole output is one, every choice has its line in it, and the pieces of the calls, joined, are it.
use mathlib.Core.Path.{◌≡◌, refl, sym, ap, ap₂, subst, ◌∙◌}
use mathlib.Core.Logic.{◌⊎◌, inl, inr}
use mathlib.Core.Bool.{cond}
use mathlib.Core.List.{List, [], ◌∷◌, ◌++◌, append-nil, append_assoc}
use Prim.Native.Nat.{ℕ, suc, ◌+◌, ◌≤◌}
use native.Mathlib.Omega.{arith}
use lib.ListN.{length, take}
use lib.Seq.{take_at}
use Rattle.std.specs.Prelude.{Option, Some, None, IfSome}
use Rattle.bits.specs.Sums.{count}
use Rattle.bits.proofs.SumLaws.{sum_same}
use Rattle.table.specs.Limits.{max_length, noughts}
use Rattle.table.specs.Desk.{mark}
use Rattle.table.specs.Checks.{Checked, Outside, MarkAbove, size_checks, length_checks, table_checks, shape_checks, marks_checks, marked_checks}
use Rattle.table.proofs.CheckLaws.{numbered_by, sized, checked_once, goes, passed, neither}
use Rattle.choices.specs.Choices.{Before, Choice, First, Next}
use Rattle.choices.specs.Promise.{Holding, Begins, Follows, OrNoughts}
use Rattle.choices.specs.Given.{held}
use Rattle.choices.specs.declared.Choice as laid
use Rattle.choices.proofs.Successors.{one_held, held_not_noughts, last_where_none_follows, begins_run, one_least}
use Rattle.line.specs.Promise.{Line, line_checks, value_checks, sheet_checks, LineRead}
use Rattle.line.proofs.Lines.{one_line}
use Rattle.sheet.specs.Printing.{header, choice_text, refusal, room}
use Rattle.sheet.specs.Steps.{Marked, WalkOf}
use Rattle.sheet.specs.Promise.{Printed, NoRow, RowPrinted}
use Rattle.sheet.specs.Sheet.{Row, Lines, last, more, Output, refused, printed, Pieces, none, piece}
use Rattle.sheet.proofs.Marking.{among_high, count-among}
use Rattle.sheet.proofs.Rows.{one_walk_of}
use Rattle.family.proofs.FamilyTables.{family_low}

-- none was given, so none follows
none_given : (k m : ℕ) (from : List ℕ) → OrNoughts (Follows k m from) noughts → (other : List ℕ) → Follows k m from other → ⊥
none_given k m from (inl f) other g = held_not_noughts k m noughts (record { sized = f.was.sized; choice = f.next.choice; held_is = f.held_is }) refl
none_given k m from (inr f) other g = f.0 other g

-- the marks of a choice pass
marks_pass : (k m : ℕ) (ids : List ℕ) (marks : ℕ) → Choice k (k + m) ids → Marked ids marks → Checked (marks_checks k m marks) 0
marks_pass k m ids marks c h =
    inr (λ w. above w, inr (λ n. n counted, refl))
  where
    counted : count (k + m) (mark marks) ≡ k
    counted = sum_same (k + m) _ _ (λ i l. ap (λ v. cond v 1 0) (h i)) ∙ count-among (k + m) 0 ids c.rising ∙ c.size

    above : MarkAbove (k + m) marks → ⊥
    above w = omega (arith, w.1, among_high 0 (k + m) ids (suc w.0) c.rising (sym (h w.0) ∙ w.2))

module _ (k m l : ℕ) (size : Checked (size_checks k m) 0) (len : Checked (length_checks l) 0) where
  -- the walk of a choice is not refused
  pub walk_not_refused : (ids : List ℕ) (number count : ℕ) → Choice k (k + m) ids → WalkOf k m l ids number count → number ≡ 0
  walk_not_refused ids number count c w =
      let low = family_low 1 k m w.table (omega arith) (omega arith) (sized k m size) w.house in
      let t : Checked (table_checks k m w.table) 0 = inr (neither (λ n. n w.house.size) (λ x. omega (arith, low x.0, x.1)), refl) in
      let front = size_checks k m ++ length_checks l in
      let fits = goes (size_checks k m) (length_checks l) 0 (numbered_by (size_checks k m) refl) size len in
      let shape = goes front (table_checks k m w.table) 0 (numbered_by front refl) fits t in
      let cs = shape_checks k m l w.table in
      let marked = goes cs (marks_checks k m w.marks) 0 (numbered_by cs refl) shape (marks_pass k m ids w.marks c w.marked) in
      checked_once (marked_checks k m l w.table w.marks) number 0 w.walked.numbered marked

  -- the line that row printed
  row_piece : {held ids before after : List ℕ} {count : ℕ} → Holding k m held ids → room ≤ length before → RowPrinted k m l held before count after → Row k m l ids (take count after)
  row_piece {held} {ids} {before} {after} {count} h b (inl p) =
      let r = p.1 in
      let e : r.ids ≡ ids = one_held k m held r.was h in
      let d = p.2.done b in
      let t : take count after ≡ p.0 = ap₂ take d.0 d.1 ∙ take_at p.0 _ (length p.0) refl in
      (r.count, subst (λ u. WalkOf k m l u 0 r.count) e r.counted, t ∙ r.text_is ∙ ap (λ u. choice_text u r.count) e)
  row_piece {held} {ids} {count = count} h b (inr p) = absurd (no p.0)
    where
      no : NoRow k m l held → ⊥
      no (inl n) = n ids h
      no (inr n) = n.5 (walk_not_refused n.0 n.1 n.2 n.3.choice n.4)

  -- the pieces from a choice on, joined, are its line and those of all after it
  pub pieces_are_lines : {c : laid.Choice} {text : List ℕ} → Pieces k m l (Some c) text → {ids : List ℕ} → Holding k m c.ids ids → Lines k m l ids text
  pieces_are_lines (piece c None count before after rest b p f s (none z) e) h =
      let alone = e ∙ ap (λ t. take count after ++ t) z ∙ append-nil (take count after) in
      last (subst (Row k m l _) (sym alone) (row_piece h b p)) (last_where_none_follows k m c.ids h (none_given k m c.ids f))
  pieces_are_lines (piece c (Some d) count before after rest b p g f ps e) {ids} h =
      let same : f.ids ≡ ids = one_held k m c.ids f.was h in
      let then : Holding k m d.ids f.then = record { sized = size; choice = f.next.choice; held_is = f.held_is } in
      more (take count after) f.then rest (row_piece h b p) (subst (λ u. Next k (k + m) u f.then) same f.next) (pieces_are_lines ps then) e

-- the length and the size of a line that is not refused
values_pass : (input : List ℕ) {k m l : ℕ} → Line input k m l → Checked (sheet_checks input) 0 → Checked (size_checks k m) 0 × Checked (length_checks l) 0
values_pass input {k} {m} {l} x c =
    let p = (passed (line_checks input) (value_checks input) (omega arith) c).1 in
    go p
  where
    go : Checked (value_checks input) 0 → Checked (size_checks k m) 0 × Checked (length_checks l) 0
    go (inl a) = absurd (omega (arith, a.1))
    go (inr a) = later a.1
      where
        later : Checked ((2, (k : ℕ) × (m : ℕ) × (l : ℕ) × Line input k m l × Outside max_length l) ∷ []) 0 → Checked (size_checks k m) 0 × Checked (length_checks l) 0
        later (inl b) = absurd (omega (arith, b.1))
        later (inr b) = (inr (λ o. a.0 (k, m, l, x, o), refl), inr (λ o. b.0 (k, m, l, x, o), refl))

-- what was printed
piece_text : {text before after : List ℕ} {count : ℕ} → room ≤ length before → Printed text before count after → take count after ≡ text
piece_text {text} b p = let d = p.done b in ap₂ take d.0 d.1 ∙ take_at text _ (length text) refl

module _ (input : List ℕ) {number k m l : ℕ} (read : LineRead (sheet_checks input) input number k m l) where
  -- a refused input gives its refusal, and that is the whole output
  pub refusal_is_output : {before after : List ℕ} {count : ℕ} → (number ≡ 0 → ⊥) → room ≤ length before → Printed (refusal number) before count after → Output input (take count after)
  refusal_is_output n b p = refused number read.numbered n (piece_text b p)

  -- else the header and the pieces from the first choice on, joined, are the whole output
  pub pieces_are_output : {before after text : List ℕ} {count : ℕ} (start : Option laid.Choice) → number ≡ 0 → room ≤ length before → Printed header before count after
      → OrNoughts (Begins k m) (held start) → IfSome start (λ c. Begins k m c.ids) → Pieces k m l start text → Output input (take count after ++ text)
  pieces_are_output {after = after} {text = text} {count = count} start z b p f g ps =
      let c = subst (Checked (sheet_checks input)) z read.numbered in
      let x = read.done z in
      let v = values_pass input x c in
      go v.0 v.1 c x start f g ps
    where
      go : Checked (size_checks k m) 0 → Checked (length_checks l) 0 → Checked (sheet_checks input) 0 → Line input k m l → (start : Option laid.Choice) → OrNoughts (Begins k m) (held start)
          → IfSome start (λ c. Begins k m c.ids) → Pieces k m l start text → Output input (take count after ++ text)
      go s len c x (Some d) f g ps =
          let first-held : Holding k m d.ids g.ids = record { sized = s; choice = g.first.choice; held_is = g.held_is } in
          printed k m l g.ids text c x g.first (pieces_are_lines k m l s len ps first-held) (ap (λ t. t ++ text) (piece_text b p))
      go s len c x None (inl g) n ps = absurd (held_not_noughts k m noughts (record { sized = s; choice = g.first.choice; held_is = g.held_is }) refl)
      go s len c x None (inr g) n ps = absurd (g.0 _ (begins_run k m s))

-- every choice from ids on has its line
pub every_choice_has_its_line : {k m l : ℕ} {ids text : List ℕ} → Lines k m l ids text → (others : List ℕ) → Choice k (k + m) others → (others ≡ ids) ⊎ Before ids others
    → (front : List ℕ) × (line : List ℕ) × (back : List ℕ) × Row k m l others line × (text ≡ front ++ line ++ back)
every_choice_has_its_line {k} {m} {l} {text = text} (last r z) others c (inl e) = ([], text, [], subst (λ u. Row k m l u text) (sym e) r, sym (append-nil text))
every_choice_has_its_line (last r z) others c (inr b) = absurd (z others c b)
every_choice_has_its_line {k} {m} {l} (more line next rest r n ls e) others c (inl q) = ([], line, rest, subst (λ u. Row k m l u line) (sym q) r, e)
every_choice_has_its_line (more line next rest r n ls e) others c (inr b) =
    let w = every_choice_has_its_line ls others c (n.least others c b) in
    (line ++ w.0, w.1, w.2, w.3, e ∙ ap (λ t. line ++ t) w.4 ∙ sym (append_assoc line (w.0 ++ w.1) w.2) ∙ ap (λ t. t ++ w.2) (sym (append_assoc line w.0 w.1)))

-- the whole output is one
row_once : (k m l : ℕ) (ids line line' : List ℕ) → Row k m l ids line → Row k m l ids line' → line ≡ line'
row_once k m l ids line line' x y = x.2 ∙ ap (choice_text ids) (one_walk_of k m l ids x.1 y.1).1 ∙ sym y.2

lines_once : {k m l : ℕ} {ids text : List ℕ} → Lines k m l ids text → (text' : List ℕ) → Lines k m l ids text' → text ≡ text'
lines_once {k} {m} {l} {ids} {text} (last r z) text' (last r' z') = row_once k m l ids text text' r r'
lines_once (last r z) text' (more line' next' rest' r' n' ls' e') = absurd (z next' n'.choice n'.after)
lines_once (more line next rest r n ls e) text' (last r' z') = absurd (z' next n.choice n.after)
lines_once {k} {m} {l} {ids} (more line next rest r n ls e) text' (more line' next' rest' r' n' ls' e') =
    let q : next' ≡ next = sym (one_least next next' (n.least next' n'.choice n'.after) (n'.least next n.choice n.after)) in
    e ∙ ap₂ ◌++◌ (row_once k m l ids line line' r r') (lines_once ls rest' (subst (λ u. Lines k m l u rest') q ls')) ∙ sym e'

pub one_output : (input text text' : List ℕ) → Output input text → Output input text' → text ≡ text'
one_output input text text' (refused n c h e) (refused n' c' h' e') = e ∙ ap refusal (checked_once (sheet_checks input) n n' c c') ∙ sym e'
one_output input text text' (refused n c h e) (printed k m l ids ls c' x f z e') = absurd (h (checked_once (sheet_checks input) n 0 c c'))
one_output input text text' (printed k m l ids ls c x f z e) (refused n' c' h' e') = absurd (h' (checked_once (sheet_checks input) n' 0 c' c))
one_output input text text' (printed k m l ids ls c x f z e) (printed k' m' l' ids' ls' c' x' f' z' e') =
    let q = one_line x' x in
    let first : First k (k + m) ids' = subst (λ a. First a (a + m) ids') q.0 (subst (λ b. First k' (k' + b) ids') q.1 f') in
    let i : ids' ≡ ids = sym (one_least ids ids' (f.least ids' first.choice) (first.least ids f.choice)) in
    let shaped : Lines k m l ids' ls' = subst (λ a. Lines a m l ids' ls') q.0 (subst (λ b. Lines k' b l ids' ls') q.1 (subst (λ d. Lines k' m' d ids' ls') q.2 z')) in
    let lines : Lines k m l ids ls' = subst (λ u. Lines k m l u ls') i shaped in
    e ∙ ap (λ t. header ++ t) (lines_once z ls' lines) ∙ sym e'
