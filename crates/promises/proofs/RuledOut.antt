-- Wrong programs: no answer of that form meets the promise at this input. Call by call; those of look, block, the choices and the class sheet stand in their crates. Assumes nothing.
use mathlib.Core.Path.{◌≡◌, refl, ap}
use mathlib.Core.Logic.{inl, inr}
use mathlib.Core.List.{List, [], ◌∷◌, ◌++◌}
use Prim.Native.Nat.{ℕ, ◌%◌, ◌≤◌}
use native.Mathlib.Omega.{arith}
use lib.ListN.{replicate, take}
use Rattle.bits.specs.Sums.{at, sum}
use Rattle.table.specs.Limits.{max_stripes, noughts}
use Rattle.table.specs.Desk.{Grows, desk, entry, most, reach, packet_bits, packet_bytes, place_of}
use Rattle.table.specs.Checks.{Checked, Outside, size_checks, family_number_checks, shape_checks, marked_checks, number_checks, marks_checks, output_checks}
use Rattle.table.proofs.CheckLaws.{numbered_by, passed, checked_once, goes, below_by, from_later, asked_parts}
use Rattle.table.proofs.Taken.{low_b, inside_b, size_b, table_b, shape_b, taken_b, size_taken, shape_taken}
use Rattle.family.specs.Promise.{family_checks, FamilyWritten, Judged}
use Rattle.encode.specs.Promise.{EncodedAll, PacketMeasured, ParitiesMeasured, SurvivorsMeasured}
use Rattle.walk.specs.Walk.{Next, none, one}
use Rattle.walk.specs.Promise.{Stepped, Walked}
use Rattle.walk.proofs.OneAnswer.{one_walk}
use Rattle.steps.specs.Promise.{StepsChecked}
use Rattle.steps.proofs.OneAnswer.{one_checked}
use Rattle.rebuild.specs.Stages.{decode_checks, rebuild_lengths_checks, rebuild_lent_checks}
use Rattle.rebuild.specs.Promise.{Rebuilt}
use Rattle.rebuild.proofs.OneAnswer.{one_rebuilt}
use Rattle.whole_log.specs.Stages.{log_striped_checks}
use Rattle.whole_log.specs.Promise.{log_checks, LogRebuilt}
use Rattle.whole_log.proofs.OneAnswer.{one_log}
use Rattle.packet.specs.Promise.{PacketMade}
use Rattle.packet.proofs.CheckParts.{made_parts}
use Rattle.packet.proofs.OneAnswer.{one_packet_made}
use Rattle.promises.proofs.OneAnswer.{one_family, one_judge, one_packet_length, one_parities_length, one_encode_all}
use Rattle.promises.proofs.AnyPacket.{marks_of_the_sources, numbers_from_the_sources}
use Rattle.promises.proofs.Demands.{five_is_for_another_length}
use Rattle.promises.specs.StepLists.{last, more}
use Rattle.promises.proofs.Stepping.{stepping_is_the_walk}
use Rattle.promises.specs.Examples.{Name, house, house3, hankel_tall, uneven, seven, eight, stepped_sources, own_parities, other_parities, four, five, six, nine, twelve}
use Rattle.promises.specs.Examples.{parities, stray, foreign, bad_log, good_log}
use Rattle.promises.proofs.RebuildAnswers.{bytes_b, bytes_told}
use Rattle.promises.proofs.LogAnswers.{stops_at, log_outcome_meets}
use Rattle.promises.proofs.PacketAnswers.{none_such, packet_outcome_meets}
use Rattle.promises.proofs.Examples.{example_met}

-- ---- the buffers and packets of the examples

-- what two bytes held that a call was lent
abbrev two : List ℕ
two = 9 ∷ 9 ∷ []

-- the sources 80 C0, and both their parities
abbrev own_sources : List ℕ
own_sources = 0x80 ∷ 0xC0 ∷ []

abbrev high_bits : List ℕ
high_bits = 0x00 ∷ 0x01 ∷ 0x80 ∷ 0x03 ∷ []

-- ---- family table

-- the number of a fourth family
fourth : (before : List ℕ) → Checked (family_checks 1 1 4 before) 19
unfolding size_b inside_b
fourth before = goes (size_checks 1 1) (family_number_checks 4 ++ output_checks 1 before) 19 (numbered_by (size_checks 1 1) refl) (size_taken 1 1 refl) (inl (inr (omega arith), refl))

-- a family table of noughts
pub no_family_of_noughts : FamilyWritten 3 3 1 nine 0 (0 ∷ 0 ∷ 0 ∷ 0 ∷ 0 ∷ 0 ∷ 0 ∷ 0 ∷ 0 ∷ []) → ⊥
no_family_of_noughts x =
    let e = one_family 3 3 1 nine x (example_met Name.family_house) in
    omega (arith, ap (λ l. at l 1) e.1)

-- one cut out of the full sheet by rows of k, where the sheet's have eight
pub no_family_by_rows_of_k : FamilyWritten 3 3 1 nine 0 (0 ∷ 1 ∷ 2 ∷ 3 ∷ 4 ∷ 5 ∷ 6 ∷ 7 ∷ 0 ∷ []) → ⊥
no_family_by_rows_of_k x =
    let e = one_family 3 3 1 nine x (example_met Name.family_house) in
    omega (arith, ap (λ l. at l 3) e.1)

-- a Hankel table of four sources and three parities by the rule for m at least k, with (m − k)/2 cut to 0
pub no_wide_table_by_the_tall_rule : FamilyWritten 4 3 2 twelve 0 (1 ∷ 0 ∷ 0 ∷ 1 ∷ 0 ∷ 0 ∷ 1 ∷ 3 ∷ 0 ∷ 1 ∷ 3 ∷ 6 ∷ []) → ⊥
no_wide_table_by_the_tall_rule x =
    let e = one_family 4 3 2 twelve x (example_met Name.family-hankel-wide) in
    omega (arith, ap (λ l. at l 0) e.1)

-- one of k and m exchanged that is not turned over its diagonal: the rows of four parities for three
pub no_wide_table_unturned : FamilyWritten 4 3 2 twelve 0 hankel_tall → ⊥
no_wide_table_unturned x =
    let e = one_family 4 3 2 twelve x (example_met Name.family-hankel-wide) in
    omega (arith, ap (λ l. at l 3) e.1)

-- the house table for the Vandermonde family's
pub no_house_for_vandermonde : FamilyWritten 3 3 3 nine 0 house3 → ⊥
no_house_for_vandermonde x =
    let e = one_family 3 3 3 nine x (example_met Name.family_vandermonde) in
    omega (arith, ap (λ l. at l 1) e.1)

-- a family that there is not, taken for another; and 5 for it, where the output is too short as well
pub no_fourth_family : {after : List ℕ} → FamilyWritten 1 1 4 (9 ∷ []) 0 after → ⊥
no_fourth_family x = omega (arith, checked_once (family_checks 1 1 4 (9 ∷ [])) 0 19 x.numbered (fourth (9 ∷ [])))

pub no_output_before_family : {after : List ℕ} → FamilyWritten 1 1 4 [] 5 after → ⊥
no_output_before_family x = omega (arith, checked_once (family_checks 1 1 4 []) 5 19 x.numbered (fourth []))

-- 19 where k is 0
pub no_family_before_size : {after : List ℕ} → FamilyWritten 0 1 0 [] 19 after → ⊥
no_family_before_size x = omega (arith, checked_once (family_checks 0 1 0 []) 19 1 x.numbered (inl (inl (inl (omega arith)), refl)))

-- ---- judge

-- a judge that says the same of every table: yes of all, and no of all
pub no_judge_always_yes : Judged 2 2 seven 0 1 → ⊥
no_judge_always_yes x = let e = one_judge 2 2 seven x (example_met Name.judge-seven) in omega (arith, e.1)

pub no_judge_always_no : Judged 2 2 house 0 0 → ⊥
no_judge_always_no x = let e = one_judge 2 2 house x (example_met Name.judge-house) in omega (arith, e.1)

-- ---- packet length, parities' length and survivors' length

-- what lengths compute with
measuring : Unit {0}
unfolding entry most reach packet_bits packet_bytes place_of sum
measuring = tt

-- a parity as long as a source
pub no_parity_as_long_as_a_source : PacketMeasured 2 2 1 house 3 0 1 → ⊥
unfolding measuring
no_parity_as_long_as_a_source x = omega (arith, x.done refl)

-- a parity as long as the longest, where each takes what its own row needs
pub no_length_by_the_whole_table : PacketMeasured 2 2 1 uneven 3 0 3 → ⊥
no_length_by_the_whole_table x = let e = one_packet_length 2 2 1 uneven 3 x (example_met Name.length-low-row) in omega (arith, e.1)

-- a source's length in bits
pub no_length_in_bits : PacketMeasured 2 2 1 house 1 0 8 → ⊥
unfolding measuring
no_length_in_bits x = omega (arith, x.done refl)

-- packets counted from 0
pub no_packet_nought : {length : ℕ} → PacketMeasured 2 2 1 house 0 0 length → ⊥
no_packet_nought x = refuses (passed (shape_checks 2 2 1 house) (number_checks 4 0) (numbered_by (shape_checks 2 2 1 house) refl) x.numbered).1
  where
    refuses : Checked (number_checks 4 0) 0 → ⊥
    refuses (inl c) = omega (arith, c.1)
    refuses (inr c) = c.0 (inl (omega arith))

-- all parities as long as the longest; and the sources counted with them
pub no_parities_as_long_as_the_longest : ParitiesMeasured 2 2 1 uneven 0 6 → ⊥
no_parities_as_long_as_the_longest x = let e = one_parities_length 2 2 1 uneven x (example_met Name.lengths-uneven) in omega (arith, e.1)

pub no_parities_with_the_sources : ParitiesMeasured 2 2 1 uneven 0 7 → ⊥
no_parities_with_the_sources x = let e = one_parities_length 2 2 1 uneven x (example_met Name.lengths-uneven) in omega (arith, e.1)

-- survivors as long as the sources
pub no_survivors_as_long_as_the_sources : SurvivorsMeasured 2 2 1 house 12 0 2 → ⊥
unfolding measuring
no_survivors_as_long_as_the_sources x = omega (arith, x.done refl)

-- every parity counted, also one that is not at hand
pub no_survivors_with_every_parity : SurvivorsMeasured 2 2 1 house 9 0 5 → ⊥
unfolding measuring
no_survivors_with_every_parity x = omega (arith, x.done refl)

-- ---- marks

-- marks cut to sixteen bits: packet 17 is none of four
cut_marks_refused : Checked (marks_checks 2 2 0x1000C) 0 → ⊥
cut_marks_refused (inl c) = omega (arith, c.1)
cut_marks_refused (inr c) = c.0 (16, omega arith, refl)

no_marks_cut : Checked (marked_checks 2 2 1 house 0x1000C) 0 → ⊥
no_marks_cut c = cut_marks_refused (passed (shape_checks 2 2 1 house) (marks_checks 2 2 0x1000C) (numbered_by (shape_checks 2 2 1 house) refl) c).1

pub no_survivors_of_cut_marks : {length : ℕ} → SurvivorsMeasured 2 2 1 house 0x1000C 0 length → ⊥
no_survivors_of_cut_marks x = no_marks_cut x.numbered

pub no_walk_of_cut_marks : {count whole : ℕ} {progress : List ℕ} → Walked 2 2 1 house 0x1000C 0 count whole progress → ⊥
no_walk_of_cut_marks x = no_marks_cut x.numbered

pub no_rebuild_of_cut_marks : {count : ℕ} {after : List ℕ} → Rebuilt 2 2 1 house 0x1000C parities two 0 count after → ⊥
no_rebuild_of_cut_marks x =
    let cs = marked_checks 2 2 1 house 0x1000C in
    no_marks_cut (passed cs (rebuild_lent_checks (desk 2 2 1 house 0x1000C) parities two) (numbered_by cs refl) x.numbered).0

pub no_packet_of_cut_marks : {wanted : ℕ} {before after : List ℕ} → PacketMade 2 2 1 house 0x1000C high_bits wanted before 0 after → ⊥
no_packet_of_cut_marks {wanted} {before} x =
    let asked = (made_parts 2 2 1 house 0x1000C high_bits wanted before x.numbered).1 in
    cut_marks_refused (asked_parts 2 2 0x1000C 4 wanted asked).0

-- ---- encode all

-- an encoder that writes nothing
pub no_silent_encoder : EncodedAll 2 2 1 house (1 ∷ 1 ∷ []) four 0 four → ⊥
no_silent_encoder x =
    let e = one_encode_all 2 2 1 house (1 ∷ 1 ∷ []) four x (example_met Name.encode-ones) in
    omega (arith, ap (λ l. at l 0) e.1)

-- one that writes the last parity first
pub no_last_parity_first : EncodedAll 2 2 1 house (1 ∷ 1 ∷ []) four 0 (0x05 ∷ 0x00 ∷ 0x03 ∷ 0x00 ∷ []) → ⊥
no_last_parity_first x =
    let e = one_encode_all 2 2 1 house (1 ∷ 1 ∷ []) four x (example_met Name.encode-ones) in
    omega (arith, ap (λ l. at l 0) e.1)

-- one that asks for 6 bytes where the parities take 2 and 3: six of them taken, and five refused
pub no_six_bytes_for_five : {after : List ℕ} → EncodedAll 2 2 1 uneven (1 ∷ 1 ∷ []) (9 ∷ five) 0 after → ⊥
no_six_bytes_for_five {after} x =
    let five-asked = five_is_for_another_length 2 2 1 uneven 5 (example_met Name.lengths-uneven) (1 ∷ 1 ∷ []) (9 ∷ five) 0 after x refl in
    omega (arith, five-asked.1 (λ e. omega (arith, e)))

pub no_five_bytes_refused : {after : List ℕ} → EncodedAll 2 2 1 uneven (1 ∷ 1 ∷ []) five 5 after → ⊥
no_five_bytes_refused x =
    let e = one_encode_all 2 2 1 uneven (1 ∷ 1 ∷ []) five x (example_met Name.encode-uneven-ones) in
    omega (arith, e.0)

-- ---- walk and next step

-- a step that finishes the whole walk at once and then reports nothing left: next step takes as many calls as walk counts steps, here sixteen
pub no_walk_in_one_step : {parity source source' : ℕ} {after after' : List ℕ}
    → (parity ≡ 0 → ⊥)
    → Stepped 2 2 1 house 12 noughts 0 parity source after
    → Stepped 2 2 1 house 12 after 0 0 source' after'
    → ⊥
no_walk_in_one_step ne x y =
    let e = stepping_is_the_walk 2 2 1 house 12 (more ne x (last y)) (example_met Name.walk-both-parities) in
    omega (arith, e.0)

-- a count taken as 8·L·k with no walk: with a source present, and at a stall
pub no_count_without_a_walk : {w : ℕ} {progress : List ℕ} → Walked 2 2 1 house 9 0 16 w progress → ⊥
no_count_without_a_walk x =
    let e = one_walk 2 2 1 house 9 x (example_met Name.walk-one-parity) in
    omega (arith, e.1)

pub no_count_past_a_stall : {w : ℕ} {progress : List ℕ} → Walked 2 2 1 seven 12 0 16 w progress → ⊥
no_count_past_a_stall x =
    let e = one_walk 2 2 1 seven 12 x (example_met Name.walk-seven) in
    omega (arith, e.1)

-- a present source told as uncovered, with progress 8·L
pub no_progress_of_a_present_source : {c w : ℕ} → Walked 2 2 1 house 9 0 c w (8 ∷ 8 ∷ 0 ∷ 0 ∷ 0 ∷ 0 ∷ 0 ∷ 0 ∷ []) → ⊥
no_progress_of_a_present_source x =
    let e = one_walk 2 2 1 house 9 x (example_met Name.walk-one-parity) in
    omega (arith, ap (λ l. at l 0) e.3)

-- a tie taken for a bare pair: after seven bits both sources stand at the same place, and no step is left
pub no_tie_taken : {parity source : ℕ} {after : List ℕ}
    → (parity ≡ 0 → ⊥)
    → Stepped 2 2 1 seven 12 (7 ∷ 0 ∷ 0 ∷ 0 ∷ 0 ∷ 0 ∷ 0 ∷ 0 ∷ []) 0 parity source after
    → ⊥
no_tie_taken {parity} {source} {after} ne x = never (x.done refl)
  where
    never : Next (desk 2 2 1 seven 12) (7 ∷ 0 ∷ 0 ∷ 0 ∷ 0 ∷ 0 ∷ 0 ∷ 0 ∷ []) parity source after → ⊥
    never (none s p q e) = ne p
    never (one a b low p q e) = ((example_met Name.walk-seven).done refl).stuck a b low.bare

-- a finished source that still covers: after eight bits source 1 would stand where source 2 does
pub no_finished_source_covers : {w : ℕ} {progress : List ℕ} → Walked 2 2 1 eight 12 0 8 w progress → ⊥
no_finished_source_covers x =
    let e = one_walk 2 2 1 eight 12 x (example_met Name.walk-eight) in
    omega (arith, e.1)

-- a walk that calls every table without growing differences not whole: this one has none, and its walk is whole
no_growing_differences : Grows (desk 2 2 1 eight 12) → ⊥
unfolding entry
no_growing_differences g = omega (arith, g 0 1 0 1 (omega arith) (omega arith) (omega arith) (omega arith))

pub whole_without_growing_differences : {c : ℕ} {progress : List ℕ} → Walked 2 2 1 eight 12 0 c 0 progress → ⊥
whole_without_growing_differences x =
    let e = one_walk 2 2 1 eight 12 x (example_met Name.walk-eight) in
    omega (arith, e.2)

-- ---- check steps

-- a check that takes only the library's own order
pub no_own_order_only : {number place : ℕ} → (number ≡ 0 → ⊥) → StepsChecked 2 2 1 house 12 other_parities stepped_sources number place → ⊥
no_own_order_only n x =
    let e = one_checked 2 2 1 house 12 other_parities stepped_sources x (example_met Name.steps-another-order) in
    n e.0

-- one that takes every list with as many steps as walk counts
pub no_list_by_its_length : {place : ℕ} → StepsChecked 2 2 1 house 12 (replicate 16 1) stepped_sources 0 place → ⊥
no_list_by_its_length x =
    let e = one_checked 2 2 1 house 12 (replicate 16 1) stepped_sources x (example_met Name.steps-right-length) in
    omega (arith, e.0)

-- one that stops looking once all is whole, and takes a step too many
pub no_step_too_many : {place : ℕ} → StepsChecked 2 2 1 house 12 (own_parities ++ 1 ∷ []) (stepped_sources ++ 2 ∷ []) 0 place → ⊥
no_step_too_many x =
    let e = one_checked 2 2 1 house 12 (own_parities ++ 1 ∷ []) (stepped_sources ++ 2 ∷ []) x (example_met Name.steps-one-more) in
    omega (arith, e.0)

-- one that takes a tie for bare, and then misses the end of a list of two
pub no_tie_in_a_list : {place : ℕ} → StepsChecked 2 2 1 house 12 (1 ∷ 1 ∷ []) (1 ∷ 2 ∷ []) 24 place → ⊥
no_tie_in_a_list x =
    let e = one_checked 2 2 1 house 12 (1 ∷ 1 ∷ []) (1 ∷ 2 ∷ []) x (example_met Name.steps-tie) in
    omega (arith, e.0)

-- a place counted from 0, and none told where the list ends early
pub no_place_from_nought : StepsChecked 2 2 1 house 12 (1 ∷ 1 ∷ []) (1 ∷ 2 ∷ []) 23 1 → ⊥
no_place_from_nought x =
    let e = one_checked 2 2 1 house 12 (1 ∷ 1 ∷ []) (1 ∷ 2 ∷ []) x (example_met Name.steps-tie) in
    omega (arith, e.1)

pub no_early_end_without_its_place : StepsChecked 2 2 1 house 12 (take 15 own_parities) (take 15 stepped_sources) 24 0 → ⊥
no_early_end_without_its_place x =
    let e = one_checked 2 2 1 house 12 (take 15 own_parities) (take 15 stepped_sources) x (example_met Name.steps-one-short) in
    omega (arith, e.1)

-- entry 0 taken for 1: the list then ends early; and 6 given for it
pub no_nought_for_one : {place : ℕ} → StepsChecked 2 2 1 house 12 (0 ∷ []) (1 ∷ []) 24 place → ⊥
no_nought_for_one x =
    let e = one_checked 2 2 1 house 12 (0 ∷ []) (1 ∷ []) x (example_met Name.steps-nought) in
    omega (arith, e.0)

pub no_six_for_an_entry : {place : ℕ} → StepsChecked 2 2 1 house 12 (0 ∷ []) (1 ∷ []) 6 place → ⊥
no_six_for_an_entry x =
    let e = one_checked 2 2 1 house 12 (0 ∷ []) (1 ∷ []) x (example_met Name.steps-nought) in
    omega (arith, e.0)

-- 8 at a stall
pub no_eight_for_a_list : {place : ℕ} → StepsChecked 2 2 1 seven 12 (replicate 7 1) (replicate 7 1) 8 place → ⊥
no_eight_for_a_list x =
    let e = one_checked 2 2 1 seven 12 (replicate 7 1) (replicate 7 1) x (example_met Name.steps-seven) in
    omega (arith, e.0)

-- 23 checked before 22: a list with a bad step and one source too few
pub no_twenty_three_before_twenty_two : {place : ℕ} → StepsChecked 2 2 1 house 12 (0 ∷ []) [] 23 place → ⊥
no_twenty_three_before_twenty_two x =
    let e = one_checked 2 2 1 house 12 (0 ∷ []) [] x (example_met Name.steps-unequal) in
    omega (arith, e.0)

-- ---- rebuild

-- a rebuild that refuses all
pub no_rebuild_refuses_all : {number count : ℕ} {after : List ℕ} → (number ≡ 0 → ⊥) → Rebuilt 2 2 1 house 12 parities two number count after → ⊥
no_rebuild_refuses_all {number} {count} {after} n x =
    let e = one_rebuilt 2 2 1 house 12 parities two number count after 0 16 (0x01 ∷ 0x01 ∷ []) x (example_met Name.rebuild-both-parities) in
    n e.0

-- one that always returns zeros
pub no_rebuild_of_zeros : {number count : ℕ} → Rebuilt 2 2 1 house 12 parities two number count (0 ∷ 0 ∷ []) → ⊥
no_rebuild_of_zeros {number} {count} x =
    let e = one_rebuilt 2 2 1 house 12 parities two number count (0 ∷ 0 ∷ []) 0 16 (0x01 ∷ 0x01 ∷ []) x (example_met Name.rebuild-both-parities) in
    omega (arith, ap (λ l. at l 0) e.2)

-- one that takes the lowest set bit for the lowest unknown bit: it reads a one first
pub no_lowest_set_bit : {number count : ℕ} {after : List ℕ} → at after 0 % 2 ≡ 1 → Rebuilt 2 2 1 house 12 high_bits two number count after → ⊥
no_lowest_set_bit {number} {count} {after} odd x =
    let e = one_rebuilt 2 2 1 house 12 high_bits two number count after 0 16 (0x80 ∷ 0xC0 ∷ []) x (example_met Name.rebuild-high-bits) in
    omega (arith, odd, ap (λ l. at l 0) e.2)

-- one that reads a bit without its shift: parity 2 has source 2 two bits up, and source 1 taken out leaves 04
pub no_bit_without_its_shift : {number count : ℕ} → Rebuilt 2 2 1 house 9 (0x01 ∷ 0x05 ∷ 0x00 ∷ []) two number count (0x01 ∷ 0x04 ∷ []) → ⊥
no_bit_without_its_shift {number} {count} x =
    let e = one_rebuilt 2 2 1 house 9 (0x01 ∷ 0x05 ∷ 0x00 ∷ []) two number count (0x01 ∷ 0x04 ∷ []) 0 8 (0x01 ∷ 0x01 ∷ []) x (example_met Name.rebuild-one-parity) in
    omega (arith, ap (λ l. at l 1) e.2)

-- one that gives 8 because the judge says no
pub no_stall_by_the_judge : {count : ℕ} {after : List ℕ} → Rebuilt 2 2 1 eight 12 (0x01 ∷ 0x01 ∷ 0x01 ∷ 0x01 ∷ []) two 8 count after → ⊥
no_stall_by_the_judge {count} {after} x =
    let e = one_rebuilt 2 2 1 eight 12 (0x01 ∷ 0x01 ∷ 0x01 ∷ 0x01 ∷ []) two 8 count after 0 16 (0x01 ∷ 0x01 ∷ []) x (example_met Name.rebuild-eight) in
    omega (arith, e.0)

-- a count of 0, or of 8·L for each missing source, at a stall
pub no_nought_at_a_stall : {number : ℕ} {after : List ℕ} → Rebuilt 2 2 1 seven 12 parities two number 0 after → ⊥
no_nought_at_a_stall {number} {after} x =
    let e = one_rebuilt 2 2 1 seven 12 parities two number 0 after 8 7 two x (example_met Name.rebuild-seven) in
    omega (arith, e.1)

pub no_full_count_at_a_stall : {number : ℕ} {after : List ℕ} → Rebuilt 2 2 1 seven 12 parities two number 16 after → ⊥
no_full_count_at_a_stall {number} {after} x =
    let e = one_rebuilt 2 2 1 seven 12 parities two number 16 after 8 7 two x (example_met Name.rebuild-seven) in
    omega (arith, e.1)

-- 10 for a one above the row's last bit, because it is not above the whole table's
pub no_stray_by_the_whole_table : {count : ℕ} {after : List ℕ} → Rebuilt 2 2 1 house 12 (0x00 ∷ 0x02 ∷ 0x00 ∷ 0x00 ∷ []) two 10 count after → ⊥
no_stray_by_the_whole_table {count} {after} x =
    let e = one_rebuilt 2 2 1 house 12 (0x00 ∷ 0x02 ∷ 0x00 ∷ 0x00 ∷ []) two 10 count after 9 0 two x (example_met Name.rebuild-past-the-row) in
    omega (arith, e.0)

-- 10 checked before 9: no sources encode to a packet with a one above its last bit either
pub no_ten_before_nine : {count : ℕ} {after : List ℕ} → Rebuilt 2 2 1 house 12 stray two 10 count after → ⊥
no_ten_before_nine {count} {after} x =
    let e = one_rebuilt 2 2 1 house 12 stray two 10 count after 9 0 two x (example_met Name.rebuild-one-above) in
    omega (arith, e.0)

-- one that never gives 10
pub no_rebuild_without_ten : {number count : ℕ} {after : List ℕ} → (number ≡ 10 → ⊥) → Rebuilt 2 2 1 house 12 foreign two number count after → ⊥
no_rebuild_without_ten {number} {count} {after} n x =
    let e = one_rebuilt 2 2 1 house 12 foreign two number count after 10 0 two x (example_met Name.rebuild-no-sources) in
    n e.0

-- one that writes what it read and then refuses
pub no_output_of_a_refused_rebuild : {number count : ℕ} → Rebuilt 2 2 1 house 12 foreign two number count (0x01 ∷ 0x01 ∷ []) → ⊥
no_output_of_a_refused_rebuild {number} {count} x =
    let e = one_rebuilt 2 2 1 house 12 foreign two number count (0x01 ∷ 0x01 ∷ []) 10 0 two x (example_met Name.rebuild-no-sources) in
    omega (arith, ap (λ l. at l 0) e.2)

-- ---- rebuild log

-- every stripe looked through for 9 before any for 10: stripe 2 gets 10, and stripe 3 would get 9
pub no_nine_of_a_later_stripe : {good count : ℕ} {after : List ℕ} → LogRebuilt 2 2 1 house 3 12 bad_log six 9 good count after → ⊥
no_nine_of_a_later_stripe x =
    let e = one_log 2 2 1 house 3 12 bad_log six x (example_met Name.log-bad-stripe) in
    omega (arith, e.0)

-- the bad stripe counted with the good one
pub no_bad_stripe_counted : {number count : ℕ} {after : List ℕ} → LogRebuilt 2 2 1 house 3 12 bad_log six number 2 count after → ⊥
no_bad_stripe_counted x =
    let e = one_log 2 2 1 house 3 12 bad_log six x (example_met Name.log-bad-stripe) in
    omega (arith, e.1)

-- a log whose second stripe gets 9
stray_log : LogRebuilt 2 2 1 house 2 12 (parities ++ stray) four 9 1 0 (0x01 ∷ 0x01 ∷ two)
unfolding measuring taken_b shape_b size_b inside_b table_b low_b
stray_log =
    log_outcome_meets 2 2 1 house 2 12 (parities ++ stray) four (record { taken = refl; few = refl; input = refl; output = refl })
    (stops_at 9 1 16 (omega arith) (omega arith) (tt, example_met Name.rebuild-both-parities) (example_met Name.rebuild-one-above) (refl, refl))

-- the steps of a good stripe left standing with 10, and with 9
pub no_count_with_a_foreign_stripe : {number good : ℕ} {after : List ℕ} → LogRebuilt 2 2 1 house 3 12 bad_log six number good 16 after → ⊥
no_count_with_a_foreign_stripe x =
    let e = one_log 2 2 1 house 3 12 bad_log six x (example_met Name.log-bad-stripe) in
    omega (arith, e.2)

pub no_count_with_a_stray_stripe : {number good : ℕ} {after : List ℕ} → LogRebuilt 2 2 1 house 2 12 (parities ++ stray) four number good 16 after → ⊥
no_count_with_a_stray_stripe x =
    let e = one_log 2 2 1 house 2 12 (parities ++ stray) four x stray_log in
    omega (arith, e.2)

-- what was read of the bad stripe written; and nothing written, because a stripe is bad
pub no_bad_stripe_written : {number good count : ℕ} → LogRebuilt 2 2 1 house 3 12 bad_log six number good count (0x01 ∷ 0x01 ∷ 0x01 ∷ 0x01 ∷ 9 ∷ 9 ∷ []) → ⊥
no_bad_stripe_written x =
    let e = one_log 2 2 1 house 3 12 bad_log six x (example_met Name.log-bad-stripe) in
    omega (arith, ap (λ l. at l 2) e.3)

pub no_good_stripe_unwritten : {number good count : ℕ} → LogRebuilt 2 2 1 house 3 12 bad_log six number good count six → ⊥
no_good_stripe_unwritten x =
    let e = one_log 2 2 1 house 3 12 bad_log six x (example_met Name.log-bad-stripe) in
    omega (arith, ap (λ l. at l 0) e.3)

-- every stripe written to the front
pub no_stripe_to_the_front : {number good count : ℕ} → LogRebuilt 2 2 1 house 3 12 good_log six number good count (0x01 ∷ 0x01 ∷ four) → ⊥
no_stripe_to_the_front x =
    let e = one_log 2 2 1 house 3 12 good_log six x (example_met Name.log-three-alike) in
    omega (arith, ap (λ l. at l 2) e.3)

-- a count times the stripes
pub no_count_times_the_stripes : {number good : ℕ} {after : List ℕ} → LogRebuilt 2 2 1 house 3 12 good_log six number good 48 after → ⊥
no_count_times_the_stripes x =
    let e = one_log 2 2 1 house 3 12 good_log six x (example_met Name.log-three-alike) in
    omega (arith, e.2)

-- at a stall every stripe told good, because none was looked at
pub no_good_stripe_at_a_stall : {number count : ℕ} {after : List ℕ} → LogRebuilt 2 2 1 seven 2 12 (parities ++ parities) four number 2 count after → ⊥
no_good_stripe_at_a_stall x =
    let e = one_log 2 2 1 seven 2 12 (parities ++ parities) four x (example_met Name.log-seven) in
    omega (arith, e.1)

-- so many stripes as there cannot be get 25, whatever the marks and the lengths are
wrong_stripes : (stripes marks : ℕ) (packets before : List ℕ) → Outside max_stripes stripes → Checked (log_checks 2 2 1 house stripes marks packets before) 25
unfolding shape_b size_b inside_b table_b low_b
wrong_stripes stripes marks packets before outside =
    let shape = shape_checks 2 2 1 house in
    goes shape (log_striped_checks (desk 2 2 1 house marks) stripes packets marks before) 25 (numbered_by shape refl) (shape_taken 2 2 1 house refl) (inl (outside, refl))

-- 6 checked before 25: seventeen stripes, and a mark of packet 17
pub no_six_before_twenty_five : {good count : ℕ} {after : List ℕ} → LogRebuilt 2 2 1 house 17 0x1000C [] [] 6 good count after → ⊥
no_six_before_twenty_five x = omega (arith, checked_once (log_checks 2 2 1 house 17 0x1000C [] []) 6 25 x.numbered (wrong_stripes 17 0x1000C [] [] (inr (omega arith))))

-- a log of no stripes taken: its buffers have their length, which is 0
pub no_log_of_no_stripes : {good count : ℕ} {after : List ℕ} → LogRebuilt 2 2 1 house 0 12 [] [] 0 good count after → ⊥
no_log_of_no_stripes x = omega (arith, checked_once (log_checks 2 2 1 house 0 12 [] []) 0 25 x.numbered (wrong_stripes 0 12 [] [] (inl (omega arith))))

-- ---- packet

-- a call that refuses all
pub no_packet_refuses_all : {number : ℕ} {after : List ℕ} → (number ≡ 0 → ⊥) → PacketMade 2 2 1 house 12 high_bits 1 (9 ∷ []) number after → ⊥
no_packet_refuses_all {number} {after} n x =
    let e = one_packet_made 2 2 1 house 12 high_bits 1 (9 ∷ []) number after 0 (0x80 ∷ []) x (example_met Name.packet-lost) in
    n e.0

-- one that refuses a wanted packet because it is at hand
pub no_packet_at_hand_refused : {number : ℕ} {after : List ℕ} → (number ≡ 0 → ⊥) → PacketMade 2 2 1 house 12 high_bits 3 two number after → ⊥
no_packet_at_hand_refused {number} {after} n x =
    let e = one_packet_made 2 2 1 house 12 high_bits 3 two number after 0 (0x00 ∷ 0x01 ∷ []) x (example_met Name.packet-at-hand) in
    n e.0

-- one that gives 8 although no source is missing: with both parities at hand this table stalls
pub no_stall_with_the_sources : {wanted : ℕ} {before after : List ℕ} → PacketMade 2 2 1 seven 3 own_sources wanted before 8 after → ⊥
unfolding bytes_b
no_stall_with_the_sources {wanted} {before} {after} x =
    omega (arith, (numbers_from_the_sources 2 2 1 seven 3 own_sources wanted before 8 after (marks_of_the_sources 2) (bytes_told own_sources refl) x).0)

-- packets counted from 0: parity 2 for packet 3
pub no_packet_from_nought : PacketMade 2 2 1 house 12 high_bits 3 two 0 (0x80 ∷ 0x03 ∷ []) → ⊥
no_packet_from_nought x =
    let e = one_packet_made 2 2 1 house 12 high_bits 3 two 0 (0x80 ∷ 0x03 ∷ []) 0 (0x00 ∷ 0x01 ∷ []) x (example_met Name.packet-at-hand) in
    omega (arith, ap (λ l. at l 0) e.1)

-- 4 checked before 6: packet 99 of sources of a wrong length
pub no_four_before_six : {after : List ℕ} → PacketMade 2 2 1 house 3 [] 99 two 4 after → ⊥
unfolding shape_b size_b inside_b table_b low_b
no_four_before_six {after} x =
    let e = one_packet_made 2 2 1 house 3 [] 99 two 4 after 6 two x (packet_outcome_meets 2 2 1 house 3 [] 99 two (none_such refl (omega arith))) in
    omega (arith, e.0)

-- 8 skipped, 9 skipped, 10 skipped: a packet is given although the walk stalls, a packet has a one above its last bit, no sources encode to the packets
module _ (table packets : List ℕ) (wanted : ℕ) (before after : List ℕ) (x : PacketMade 2 2 1 table 12 packets wanted before 0 after) where
  -- where rebuild gives another number at the same packets
  made_as_rebuilt : {number count : ℕ} {room sources : List ℕ} → Rebuilt 2 2 1 table 12 packets room number count sources → 8 ≤ number → ⊥
  made_as_rebuilt {number} {count} {room} y l =
      let D = desk 2 2 1 table 12 in
      let front = marked_checks 2 2 1 table 12 ++ rebuild_lengths_checks D packets room in
      let rebuilt = (from_later 8 front (decode_checks D packets) number l (below_by 8 front refl) y.numbered).1 in
      omega (arith, checked_once (decode_checks D packets) number 0 rebuilt (made_parts 2 2 1 table 12 packets wanted before x.numbered).3)

pub no_packet_past_a_stall : {wanted : ℕ} {before after : List ℕ} → PacketMade 2 2 1 seven 12 parities wanted before 0 after → ⊥
no_packet_past_a_stall {wanted} {before} {after} x = made_as_rebuilt seven parities wanted before after x (example_met Name.rebuild-seven) (omega arith)

pub no_packet_of_stray_packets : {wanted : ℕ} {before after : List ℕ} → PacketMade 2 2 1 house 12 stray wanted before 0 after → ⊥
no_packet_of_stray_packets {wanted} {before} {after} x = made_as_rebuilt house stray wanted before after x (example_met Name.rebuild-one-above) (omega arith)

pub no_packet_of_foreign_packets : {wanted : ℕ} {before after : List ℕ} → PacketMade 2 2 1 house 12 foreign wanted before 0 after → ⊥
no_packet_of_foreign_packets {wanted} {before} {after} x = made_as_rebuilt house foreign wanted before after x (example_met Name.rebuild-no-sources) (omega arith)

-- so no copy of a packet at hand with no look at the others: parity 1 came as it was sent
pub no_copy_of_a_packet_at_hand : PacketMade 2 2 1 house 12 foreign 3 two 0 (0x03 ∷ 0x00 ∷ []) → ⊥
no_copy_of_a_packet_at_hand = no_packet_of_foreign_packets

-- the first packet at hand for the wanted one: source 1 for source 2
pub no_packet_at_hand_for_another : PacketMade 2 2 1 house 3 own_sources 2 (9 ∷ []) 0 (0x80 ∷ []) → ⊥
no_packet_at_hand_for_another x =
    let e = one_packet_made 2 2 1 house 3 own_sources 2 (9 ∷ []) 0 (0x80 ∷ []) 0 (0xC0 ∷ []) x (example_met Name.packet-source-of-sources) in
    omega (arith, ap (λ l. at l 0) e.1)
