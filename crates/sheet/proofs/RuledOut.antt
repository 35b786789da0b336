-- Wrong programs: no answer of that form meets the promise at this input. Assumes nothing.
use mathlib.Core.Path.{◌≡◌, refl, ap, ◌∙◌}
use mathlib.Core.Logic.{inl, inr}
use mathlib.Core.List.{List, [], ◌∷◌}
use Prim.Native.Nat.{ℕ, ◌≤◌, ◌<◌}
use native.Mathlib.Omega.{arith}
use lib.ListN.{length, drop}
use lib.Seq.{drop_at}
use Rattle.bits.specs.Sums.{at, one_at, sum, all_b, lowest}
use Rattle.text.specs.Text.{space, line_feed, Front}
use Rattle.text.specs.Numerals.{digit, written, numeral}
use Rattle.table.specs.Desk.{entry}
use Rattle.table.proofs.Taken.{low_b, inside_b, size_b, table_b, shape_b, taken_b, size_taken, taken_checked}
use Rattle.table.specs.Family.{family_shift}
use Rattle.family.proofs.Tested.{family_b, family_table}
use Rattle.walk.specs.Compute.{placed_of, lower_of, scan, source_of, parity_of, full_b, whole_b, walk_from}
use Rattle.walk.proofs.Answers.{answer_of, answer_meets}
use Rattle.choices.specs.Choices.{Rising, padded}
use Rattle.choices.proofs.Successors.{held_rises_to_n}
use Rattle.sheet.specs.Printing.{after_commas, commaed, header, choice_text, refusal, room}
use Rattle.sheet.specs.Steps.{Marked, WalkOf}
use Rattle.sheet.specs.Promise.{Printed, RowOf, RowPrinted}
use Rattle.sheet.proofs.Marking.{marked_none, marked_more}
use Rattle.sheet.proofs.OneAnswer.{one_row}

-- ---- header

-- a header whose line feed is left out
pub no_header_without_line_feed : {before after : List ℕ} → room ≤ length before → Printed header before 9 after → ⊥
no_header_without_line_feed b x = omega (arith, (x.done b).0)

-- one that changes a byte past its text
pub no_byte_past_the_header : {before after : List ℕ} {count : ℕ} → room ≤ length before → (drop 10 after ≡ drop 10 before → ⊥) → Printed header before count after → ⊥
no_byte_past_the_header {before} b n x = n (ap (drop 10) (x.done b).1 ∙ drop_at header (drop 10 before) 10 refl)

-- one that asks for no more room than its text takes
pub no_header_in_less_room : {before after : List ℕ} {count : ℕ} → length before < room → ((count ≡ 0) × (after ≡ before) → ⊥) → Printed header before count after → ⊥
no_header_in_less_room l n x = n (x.short l)

-- ---- refusal

-- a number with a leading zero: `refused 07`
pub no_refusal_with_a_leading_zero : {before after : List ℕ} {count : ℕ} → room ≤ length before → at after 8 ≡ digit 0 → Printed (refusal 7) before count after → ⊥
unfolding numeral written
no_refusal_with_a_leading_zero b e x = omega (arith, e, ap (λ l. at l 8) (x.done b).1)

-- a number padded by a space: `refused  7`
pub no_refusal_padded : {before after : List ℕ} {count : ℕ} → room ≤ length before → at after 8 ≡ space → Printed (refusal 7) before count after → ⊥
unfolding numeral written
no_refusal_padded b e x = omega (arith, e, ap (λ l. at l 8) (x.done b).1)

-- a refusal whose line feed is left out
pub no_refusal_without_line_feed : {before after : List ℕ} → room ≤ length before → Printed (refusal 7) before 9 after → ⊥
unfolding numeral written
no_refusal_without_line_feed b x = omega (arith, (x.done b).0)

-- one that is cut after the first digit: `refused 1` for 18
pub no_refusal_cut : {before after : List ℕ} {count : ℕ} → room ≤ length before → at after 9 ≡ line_feed → Printed (refusal 18) before count after → ⊥
unfolding numeral written
no_refusal_cut b e x = omega (arith, e, ap (λ l. at l 9) (x.done b).1)

-- ---- row

-- one that prints anything for what is no choice
pub no_row_of_no_choice : {before after : List ℕ} {count : ℕ} → ((count ≡ 0) × (after ≡ before) → ⊥) → RowPrinted 2 2 1 (padded (2 ∷ 1 ∷ [])) before count after → ⊥
no_row_of_no_choice n (inl x) = omega (arith, (held_rises_to_n 2 2 (padded (2 ∷ 1 ∷ [])) x.1.was).2.0)
no_row_of_no_choice n (inr x) = n (x.1, x.2)

-- the line of the choice 1,4,5 at 3 2 1, of which is computed that it is taken, its walk and its text
accepting : Unit {0}
unfolding taken_b shape_b size_b table_b inside_b low_b family_b family_shift entry
accepting = tt

walking : Unit {0}
unfolding answer_of walk_from parity_of source_of lowest placed_of lower_of scan all_b one_at sum full_b whole_b
walking = tt

writing : Unit {0}
unfolding commaed after_commas numeral written
writing = tt

rising : Rising 0 5 (1 ∷ 4 ∷ 5 ∷ [])
rising = (omega arith, omega arith, (omega arith, omega arith, (omega arith, omega arith, tt)))

marked : Marked (1 ∷ 4 ∷ 5 ∷ []) 25
marked = marked_more 5 1 24 (4 ∷ 5 ∷ []) (omega arith) rising.2 (marked_more 5 4 16 (5 ∷ []) (omega arith) rising.2.2 (marked_more 5 5 0 [] (omega arith) tt marked_none))

walked : WalkOf 3 2 1 (1 ∷ 4 ∷ 5 ∷ []) 0 16
unfolding accepting walking
walked =
    let house : List ℕ = 0 ∷ 1 ∷ 2 ∷ 0 ∷ 2 ∷ 4 ∷ [] in
    record {
      table = house;
      house = family_table 1 3 2 house refl;
      marks = 25;
      marked = marked;
      whole = 1;
      progress = 0 ∷ 8 ∷ 8 ∷ 0 ∷ 0 ∷ 0 ∷ 0 ∷ 0 ∷ [];
      walked = answer_meets 3 2 1 house 25 (taken_checked 3 2 1 house 25 refl);
    }

row_of_it : RowOf 3 2 1 (padded (1 ∷ 4 ∷ 5 ∷ [])) (choice_text (1 ∷ 4 ∷ 5 ∷ []) 16)
unfolding accepting
row_of_it = record {
  ids = 1 ∷ 4 ∷ 5 ∷ [];
  was = record { sized = size_taken 3 2 refl; choice = record { size = refl; rising = rising }; held_is = refl };
  count = 16;
  counted = walked;
  text_is = refl;
}

-- it is `1,4,5 16`
line : {before after : List ℕ} {count : ℕ} → room ≤ length before → RowPrinted 3 2 1 (padded (1 ∷ 4 ∷ 5 ∷ [])) before count after
    → Front before (choice_text (1 ∷ 4 ∷ 5 ∷ []) 16) after
line {before} b x =
    (one_row 3 2 1 (padded (1 ∷ 4 ∷ 5 ∷ [])) before x (inl (choice_text (1 ∷ 4 ∷ 5 ∷ []) 16, row_of_it, record { short = λ l. absurd (omega arith); done = λ _. (refl, refl) }))).1

-- a line with no commas between the numbers
pub no_row_without_commas : {before after : List ℕ} {count : ℕ} → room ≤ length before → at after 1 ≡ digit 4 → RowPrinted 3 2 1 (padded (1 ∷ 4 ∷ 5 ∷ [])) before count after → ⊥
unfolding writing
no_row_without_commas b e x = omega (arith, e, ap (λ l. at l 1) (line b x))

-- one with the numbers of the packets that are lost, 2,3, in place of those at hand
pub no_row_of_the_lost : {before after : List ℕ} {count : ℕ} → room ≤ length before → at after 0 ≡ digit 2 → RowPrinted 3 2 1 (padded (1 ∷ 4 ∷ 5 ∷ [])) before count after → ⊥
unfolding writing
no_row_of_the_lost b e x = omega (arith, e, ap (λ l. at l 0) (line b x))

-- one with the count of another choice: those before and after this one have 8 steps, the first has 0
pub no_row_with_another_count : {before after : List ℕ} {count : ℕ} → room ≤ length before → ((at after 6 ≡ digit 1) × (at after 7 ≡ digit 6) → ⊥)
    → RowPrinted 3 2 1 (padded (1 ∷ 4 ∷ 5 ∷ [])) before count after → ⊥
unfolding writing
no_row_with_another_count b n x = n (ap (λ l. at l 6) (line b x), ap (λ l. at l 7) (line b x))
