-- Wrong programs: no answer of that form meets the promise at this input. Assumes nothing.
use mathlib.Core.Path.{◌≡◌, refl, sym, ap, ◌∙◌}
use mathlib.Core.Logic.{◌⊎◌, inl, inr}
use mathlib.Core.Bool.{true}
use mathlib.Core.List.{List, [], ◌∷◌}
use Prim.Native.Nat.{ℕ, ◌≤◌}
use native.Mathlib.Omega.{arith}
use lib.ListN as lists
use lib.Seq.{get_or-take, get_or-drop}
use denote.Ref.{Bor}
use Rattle.std.specs.Prelude.{Ok}
use Rattle.bits.specs.Sums.{at, sum}
use Rattle.table.specs.Desk.{desk, entry, most, sources_bytes, survivors_bytes, reach, packet_bits, packet_bytes, place_of}
use Rattle.table.specs.Checks.{Checked, Outside, MarkAbove, shape_checks, asked_checks, input_checks}
use Rattle.table.proofs.CheckLaws.{numbered_by, checked_once, goes, inside, exactly_long, asked_goes}
use Rattle.table.proofs.AnswerLaws.{answer_done}
use Rattle.table.proofs.ShapeLaws.{marked_parts}
use Rattle.table.proofs.Taken.{low_b, inside_b, size_b, table_b, shape_b, taken_b, shape_taken, taken_checked}
use Rattle.look.specs.Stages.{buffers_checks, found_checks}
use Rattle.look.specs.Promise.{LookedAt, Looked, HandedOut, PartOf, look_checks}
use Rattle.look.proofs.LookLaws.{handed_looked}
use Rattle.look.proofs.OneAnswer.{one_place}

-- the house table of 2 2
abbrev pub house : List ℕ
house = 0 ∷ 1 ∷ 0 ∷ 2 ∷ []

-- with a source of one byte and a parity of two at hand, the survivors are three bytes, and the rebuilt sources two
abbrev pub Lent : List ℕ → List ℕ → Type 0
Lent survivors rebuilt = (lists.length survivors ≡ 3) × (lists.length rebuilt ≡ 2)

-- what is computed: that the call is accepted, and where packets stand
accepting : Unit {0}
unfolding taken_b shape_b size_b table_b inside_b low_b sum
accepting = tt

placing : Unit {0}
unfolding place_of packet_bytes packet_bits reach most entry
placing = tt

-- no check refuses
accepted : (marks source : ℕ) (survivors rebuilt : List ℕ) → taken_b 2 2 1 house marks ≡ true → 1 ≤ source → source ≤ 2
    → lists.length survivors ≡ survivors_bytes (desk 2 2 1 house marks) → lists.length rebuilt ≡ 2 → Checked (look_checks 2 2 1 house marks source survivors rebuilt) 0
accepted marks source survivors rebuilt taken low high three two =
    let D = desk 2 2 1 house marks in
    let shape = shape_checks 2 2 1 house in
    let asked = asked_checks 2 2 marks 2 source in
    let input = input_checks (survivors_bytes D) survivors in
    let p = marked_parts 2 2 1 house marks (taken_checked 2 2 1 house marks taken) in
    let buffers = goes input (input_checks (sources_bytes D) rebuilt) 0 (numbered_by input refl) (exactly_long 4 (survivors_bytes D) survivors three) (exactly_long 4 (sources_bytes D) rebuilt two) in
    let found = goes asked (buffers_checks D survivors rebuilt) 0 (numbered_by asked refl) (asked_goes 2 2 marks 2 source 0 (inr (inside low high, refl)) p.1) buffers in
    goes shape (found_checks D marks source survivors rebuilt) 0 (numbered_by shape refl) p.0 found

-- ---- look_at

module _ (survivors rebuilt : List ℕ) (lent : Lent survivors rebuilt) where
  -- packets 1 and 4 at hand: source 1 stands at the start of the survivors, source 2 at byte 1 of the rebuilt sources
  first_stands : LookedAt 2 2 1 house 9 1 survivors rebuilt 0 1 0 1
  unfolding accepting placing
  first_stands =
      let c = accepted 9 1 survivors rebuilt refl (omega arith) (omega arith) lent.0 lent.1 in
      answer_done (look_checks 2 2 1 house 9 1 survivors rebuilt) 0 c refl (inl (refl, refl, refl), refl)

  second_stands : LookedAt 2 2 1 house 9 2 survivors rebuilt 0 2 1 1
  unfolding accepting placing
  second_stands =
      let c = accepted 9 2 survivors rebuilt refl (omega arith) (omega arith) lent.0 lent.1 in
      answer_done (look_checks 2 2 1 house 9 2 survivors rebuilt) 0 c refl (inr (refl, refl, refl), refl)

  -- packets 2 and 4 at hand: source 2 stands at the start of the survivors
  second_present : LookedAt 2 2 1 house 10 2 survivors rebuilt 0 1 0 1
  unfolding accepting placing
  second_present =
      let c = accepted 10 2 survivors rebuilt refl (omega arith) (omega arith) lent.0 lent.1 in
      answer_done (look_checks 2 2 1 house 10 2 survivors rebuilt) 0 c refl (inl (refl, refl, refl), refl)

  -- a look that refuses all
  pub no_look_refuses_all : {number buffer start length : ℕ} → (number ≡ 0 → ⊥) → LookedAt 2 2 1 house 9 2 survivors rebuilt number buffer start length → ⊥
  no_look_refuses_all n x = n (one_place 2 2 1 house 9 2 survivors rebuilt x second_stands).0

  -- a source whose card is present looked for among the rebuilt sources
  pub no_present_source_rebuilt : {number start length : ℕ} → LookedAt 2 2 1 house 9 1 survivors rebuilt number 2 start length → ⊥
  no_present_source_rebuilt x = omega (arith, (one_place 2 2 1 house 9 1 survivors rebuilt x first_stands).1)

  -- a missing source looked for among the survivors
  pub no_missing_source_at_hand : {number start length : ℕ} → LookedAt 2 2 1 house 9 2 survivors rebuilt number 1 start length → ⊥
  no_missing_source_at_hand x = omega (arith, (one_place 2 2 1 house 9 2 survivors rebuilt x second_stands).1)

  -- the place of a rebuilt source counted among the missing ones only
  pub no_place_among_the_missing : {number buffer length : ℕ} → LookedAt 2 2 1 house 9 2 survivors rebuilt number buffer 0 length → ⊥
  no_place_among_the_missing x = omega (arith, (one_place 2 2 1 house 9 2 survivors rebuilt x second_stands).2)

  -- and counted in bits
  pub no_place_in_bits : {number buffer length : ℕ} → LookedAt 2 2 1 house 9 2 survivors rebuilt number buffer 8 length → ⊥
  no_place_in_bits x = omega (arith, (one_place 2 2 1 house 9 2 survivors rebuilt x second_stands).2)

  -- the place of a present source counted among all sources
  pub no_place_among_all_sources : {number buffer length : ℕ} → LookedAt 2 2 1 house 10 2 survivors rebuilt number buffer 1 length → ⊥
  no_place_among_all_sources x = omega (arith, (one_place 2 2 1 house 10 2 survivors rebuilt x second_present).2)

-- 6, whatever is lent
refused-six : (marks source : ℕ) (survivors rebuilt : List ℕ) {number buffer start length : ℕ} → MarkAbove 4 marks ⊎ Outside 2 source
    → LookedAt 2 2 1 house marks source survivors rebuilt number buffer start length → number ≡ 6
unfolding accepting
refused-six marks source survivors rebuilt {number} o x =
    let shape = shape_checks 2 2 1 house in
    let found = found_checks (desk 2 2 1 house marks) marks source survivors rebuilt in
    let six = goes shape found 6 (numbered_by shape refl) (shape_taken 2 2 1 house refl) (inl (o, refl)) in
    checked_once (look_checks 2 2 1 house marks source survivors rebuilt) number 6 x.numbered six

-- marks cut to sixteen bits: one above them is 6
pub no_marks_cut : (source : ℕ) (survivors rebuilt : List ℕ) {number buffer start length : ℕ} → (number ≡ 6 → ⊥)
    → LookedAt 2 2 1 house 0x10009 source survivors rebuilt number buffer start length → ⊥
no_marks_cut source survivors rebuilt n x = n (refused-six 0x10009 source survivors rebuilt (inl (16, omega arith, refl)) x)

-- ---- look

module _ (survivors rebuilt r : Bor (List ℕ)) (lent : Lent survivors.now rebuilt.now) where
  -- packets 1 and 4 at hand: source 2 is handed out as the part of the rebuilt sources at byte 1
  handed_out : Looked 2 2 1 house 9 2 survivors rebuilt r → PartOf rebuilt 1 1 r
  handed_out x =
      let e = one_place 2 2 1 house 9 2 survivors.now rebuilt.now x.told (second_stands survivors.now rebuilt.now lent) in
      rw (e.1, e.2, e.3) at x.part

  -- a copy, which lies elsewhere
  pub no_copy_handed_out : (r.ref_ptr.0 ≡ rebuilt.ref_ptr.0 → ⊥) → Looked 2 2 1 house 9 2 survivors rebuilt r → ⊥
  no_copy_handed_out apart x = apart (handed_out x).block

  -- a part of the survivors, which lie in another buffer
  pub no_part_of_the_survivors : (survivors.ref_ptr.0 ≡ rebuilt.ref_ptr.0 → ⊥) → r.ref_ptr.0 ≡ survivors.ref_ptr.0 → Looked 2 2 1 house 9 2 survivors rebuilt r → ⊥
  no_part_of_the_survivors apart e x = apart (sym e ∙ (handed_out x).block)

  -- a byte of the survivors that is not the source's
  pub no_byte_of_the_survivors : (i : ℕ) → (at survivors.now i ≡ at rebuilt.now 1 → ⊥) → at r.now 0 ≡ at survivors.now i → Looked 2 2 1 house 9 2 survivors rebuilt r → ⊥
  no_byte_of_the_survivors i differs e x =
      differs (sym e ∙ ap (λ l. at l 0) (handed_out x).bytes ∙ get_or-take 1 (lists.drop 1 rebuilt.now) 0 0 (omega arith) ∙ get_or-drop 1 rebuilt.now 0 0)

  -- the part at the start of the rebuilt sources
  pub no_part_at_the_start : r.ref_ptr.1 ≡ rebuilt.ref_ptr.1 → Looked 2 2 1 house 9 2 survivors rebuilt r → ⊥
  no_part_at_the_start e x = omega (arith, e, (handed_out x).place)

  -- all of the rebuilt sources, or the empty part
  pub no_part_of_another_length : (lists.length r.now ≡ 1 → ⊥) → Looked 2 2 1 house 9 2 survivors rebuilt r → ⊥
  no_part_of_another_length n x = n (ap lists.length (handed_out x).bytes ∙ simp (lists.length-take, lists.length-drop) (omega (arith, lent.1)))

-- a source handed out where there is none of that number
pub no_part_when_refused : (survivors rebuilt r : Bor (List ℕ)) → (lists.length r.now ≡ 0 → ⊥) → Looked 2 2 1 house 9 3 survivors rebuilt r → ⊥
no_part_when_refused survivors rebuilt r n x =
    let six = refused-six 9 3 survivors.now rebuilt.now (inr (inr (omega arith))) x.told in
    let none = x.told.refused (λ z. omega (arith, six, z)) in
    n (ap lists.length (rw none.2 at x.part.bytes))

-- ---- hand_out

module _ (survivors rebuilt r : Bor (List ℕ)) (lent : Lent survivors.now rebuilt.now) where
  pub no_copy_by_hand_out : (r.ref_ptr.0 ≡ rebuilt.ref_ptr.0 → ⊥) → HandedOut 2 2 1 house 9 2 survivors rebuilt (Ok r) → ⊥
  no_copy_by_hand_out apart x = no_copy_handed_out survivors rebuilt r lent apart (handed_looked x)

  pub no_part_of_the_survivors_by_hand_out : (survivors.ref_ptr.0 ≡ rebuilt.ref_ptr.0 → ⊥) → r.ref_ptr.0 ≡ survivors.ref_ptr.0 → HandedOut 2 2 1 house 9 2 survivors rebuilt (Ok r) → ⊥
  no_part_of_the_survivors_by_hand_out apart e x = no_part_of_the_survivors survivors rebuilt r lent apart e (handed_looked x)

  pub no_byte_of_the_survivors_by_hand_out : (i : ℕ) → (at survivors.now i ≡ at rebuilt.now 1 → ⊥) → at r.now 0 ≡ at survivors.now i → HandedOut 2 2 1 house 9 2 survivors rebuilt (Ok r) → ⊥
  no_byte_of_the_survivors_by_hand_out i differs e x = no_byte_of_the_survivors survivors rebuilt r lent i differs e (handed_looked x)

  pub no_part_at_the_start_by_hand_out : r.ref_ptr.1 ≡ rebuilt.ref_ptr.1 → HandedOut 2 2 1 house 9 2 survivors rebuilt (Ok r) → ⊥
  no_part_at_the_start_by_hand_out e x = no_part_at_the_start survivors rebuilt r lent e (handed_looked x)

  pub no_part_of_another_length_by_hand_out : (lists.length r.now ≡ 1 → ⊥) → HandedOut 2 2 1 house 9 2 survivors rebuilt (Ok r) → ⊥
  no_part_of_another_length_by_hand_out n x = no_part_of_another_length survivors rebuilt r lent n (handed_looked x)

-- refused, not even the empty part
pub no_part_when_refused_by_hand_out : (survivors rebuilt r : Bor (List ℕ)) → HandedOut 2 2 1 house 9 3 survivors rebuilt (Ok r) → ⊥
no_part_when_refused_by_hand_out survivors rebuilt r x =
    let six = refused-six 9 3 survivors.now rebuilt.now (inr (inr (omega arith))) x.told in
    omega (arith, six)
