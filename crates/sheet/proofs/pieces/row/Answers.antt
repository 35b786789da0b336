-- The numbers, a space, the count of the walk and a line feed are put one after another.
use mathlib.Core.Path.{◌≡◌, refl, subst}
use mathlib.Core.Logic.{inl, inr}
use mathlib.Core.List.{List, [], ◌∷◌, ◌++◌}
use Prim.Native.Nat.{ℕ, ◌+◌}
use native.Mathlib.Omega.{arith}
use lib.ListN.{length, take, length-append}
use borrow.Author.Rules.{rules}
use Rattle.std.specs.Prelude.{None}
use Rattle.text.specs.Text.{space, line_feed, Front}
use Rattle.text.specs.Numerals.{numeral}
use Rattle.table.specs.Refusals.{told, given}
use Rattle.table.proofs.CheckLaws.{sized}
use Rattle.choices.specs.Promise.{Holding}
use Rattle.choices.proofs.Successors.{held-take, held_rises}
use Rattle.sheet.specs.Printing.{commaed, choice_text}
use Rattle.sheet.specs.Steps.{WalkOf}
use Rattle.sheet.specs.Promise.{RowOf}
use Rattle.sheet.proofs.Rows.{row_of, line_parts}
use Rattle.sheet.proofs.pieces.row.Goals as goal
use Rattle.sheet.proofs.pieces.row.Goals.{Else-not-is_choice, After-branch-steps, In_ok-steps}

-- past the first test a choice is held
held : (c : Else-not-is_choice) → (ids : List ℕ) × Holding c.args.line.k c.args.line.m c.args.c.ids ids
held c = c.is_choice.ensures.so c.if-not-is_choice.false

-- past the second its steps are counted
line_of : (c : In_ok-steps) → RowOf c.args.line.k c.args.line.m c.args.line.l c.args.c.ids (choice_text (take c.args.line.k c.args.c.ids) c.in_ok-steps.steps)
line_of c =
    let s = c.args in
    let counted : WalkOf s.line.k s.line.m s.line.l (take s.line.k s.c.ids) 0 c.in_ok-steps.steps = search rules in
    row_of s.line.k s.line.m s.line.l s.c.ids (c.is_choice.ensures.so c.if-not-is_choice.false).1 counted

pub returns-then-not-is_choice-clause-printed : goal.returns-then-not-is_choice-clause-printed
returns-then-not-is_choice-clause-printed c = inr (inl (λ ids h. c.is_choice.ensures.not_so c.if-not-is_choice.true (ids, h)), refl, refl)

pub count_steps-requires : goal.count_steps-requires
count_steps-requires c =
    let s = c.args in
    let h = held (goal.at.count_steps-requires c).Else-not-is_choice in
    (h.1.sized, held_rises s.line.k s.line.m s.c.ids h.1)

pub returns-in_err-steps-clause-printed : goal.returns-in_err-steps-clause-printed
returns-in_err-steps-clause-printed c =
    let s = c.args in
    let w = c.count_steps in
    let h = held (goal.at.returns-in_err-steps-clause-printed c).Else-not-is_choice in
    let was = subst (Holding s.line.k s.line.m s.c.ids) (held-take s.line.k s.line.m s.c.ids h.1).0 h.1 in
    let refused : told w.result ≡ 0 → ⊥ = search rules in
    let e : c.from_residual.result ≡ None = search rules in
    rw e (inr (inr (take s.line.k s.c.ids, told w.result, given w.result, was, w.ensures, refused), refl, refl))

pub returns-then-out-lt-ROOM-clause-printed : goal.returns-then-out-lt-ROOM-clause-printed
returns-then-out-lt-ROOM-clause-printed c =
    inl (_, line_of (goal.at.returns-then-out-lt-ROOM-clause-printed c).In_ok-steps, record { short = λ _. (refl, refl); done = λ l. absurd (omega arith) })

pub put_ids-last-requires : goal.put_ids-last-requires
put_ids-last-requires c =
    let s = c.args in
    let h = held (goal.at.put_ids-last-requires c).Else-not-is_choice in
    let z = sized s.line.k s.line.m h.1.sized in
    (z.k_low, z.k_high, held_rises s.line.k s.line.m s.c.ids h.1, omega arith)

pub returns-clause-printed : goal.returns-clause-printed
returns-clause-printed c =
    let s = c.args in
    let ids = take s.line.k s.c.ids in
    let a = c.put_ids-last.ensures in
    let b = c.put_byte-count.ensures in
    let d = c.put_numeral-end.ensures in
    let e = c.put_byte.ensures in
    let n = numeral c.in_ok-steps.steps in
    let front = commaed ids ++ space ∷ [] in
    let lf : length front ≡ length (commaed ids) + 1 = length-append (commaed ids) (space ∷ []) in
    let second = b.1 s.out.now (commaed ids) a.0 a.2 in
    let third = d.2 s.out.now front (omega (arith, a.0, b.0)) second in
    let fourth = e.1 s.out.now (front ++ n) (omega (arith, a.0, b.0, d.0, length-append front n)) third in
    inl (
      choice_text ids c.in_ok-steps.steps,
      line_of (goal.at.returns-clause-printed c).In_ok-steps,
      record {
        short = λ l. absurd (omega (arith, c.if-out-lt-ROOM.false));
        done = λ _. (
          omega (arith, a.0, b.0, d.0, e.0, length-append (commaed ids) (space ∷ (n ++ line_feed ∷ [])), length-append n (line_feed ∷ [])),
          subst (λ (t : List ℕ). Front s.out.now t c.put_byte.new.out) (line_parts (commaed ids) n) fourth,
        );
      },
    )
