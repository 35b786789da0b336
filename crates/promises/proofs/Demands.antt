-- The demands, proved: each theorem is the statement of its name in specs/Demands. Assumes nothing.
use mathlib.Core.Path.{◌≡◌, refl, sym, ap, ◌∙◌, ap₂, subst}
use mathlib.Core.Logic.{inl, inr, ◌⊎◌}
use mathlib.Core.List.{List, ◌++◌, []}
use mathlib.Core.Bool.{Bool, true}
use Prim.Native.Nat.{ℕ, ◌+◌, ◌-◌, ◌*◌, ◌%◌, ◌≤◌, ◌<◌, zero, suc}
use native.Mathlib.Omega.{arith}
use native.Mathlib.Nat.{zero-mul}
use native.Mathlib.Decide.{dec_lt}
use lib.Dec.{leb}
use borrow.Author.Tests.{le-leb, lt-ltb, le-ltb}
use lib.ListN.{length, drop}
use Rattle.bits.specs.Sums.{at, pick}
use Rattle.bits.specs.Bits.{Bytes, bit_at, joined}
use Rattle.bits.proofs.ByteLaws.{part-joined, joined_length}
use Rattle.bits.proofs.SliceLaws.{slice_past}
use Rattle.table.specs.Desk.{Desk, desk, sources_bytes, reach, packet_bits, packet_bytes, parities_bytes, survivors_bytes, place_of, Grows, mark}
use Rattle.table.specs.Checks.{Checks, Checked, the_list, size_checks, family_number_checks, table_checks, output_checks, shape_checks, input_checks, marks_checks, marked_checks}
use Rattle.family.specs.Promise.{family_checks, FamilyWritten, Judged, judge_checks}
use Rattle.table.proofs.CheckLaws.{numbered_by, checked_once, passed, goes, neither, sized, family_in_range, exactly_long, lengths_exact, rest_decides}
use Rattle.table.proofs.CheckLaws.{flag_up, flag_holds, flag_down, flag_low}
use Rattle.table.proofs.ListLaws.{listed_by, number_in_order, listed_one_way}
use Rattle.family.proofs.FamilyTables.{family_grows, family_low, hankel_table_largest}
use Rattle.table.proofs.ShapeLaws.{shaped, marked_parts, marked_count}
use Rattle.table.proofs.PacketLaws.{source_full, source_bytes_low, within_reach, reach_is_an_entry, source_packet_bits, source_packet_bytes, parity_packet_bits, parity_packet_bytes}
use Rattle.code.specs.Code.{parity, sources_of, packet_of, packets_of}
use Rattle.encode.specs.Stages.{all_checks}
use Rattle.encode.specs.Promise.{encode_checks, EncodedAll, packet_length_checks}
use Rattle.code.proofs.CodeLaws.{desk_short, by_kind, packet_size, packet_source_bits, packet_parity_bits, packet_ignores_present, sum_past}
use Rattle.walk.specs.Walk.{Whole, Next, none, one}
use Rattle.walk.proofs.Runs.{same_end, run_split}
use Rattle.walk.proofs.Ends.{whole_finishes, none_finishes, finished_ended, ended_finishes, one_count, finishes_ends, some_end}
use Rattle.walk.proofs.Totals.{run_short, total_none}
use Rattle.walk.proofs.Grow.{every-bit}
use Rattle.walk.specs.Read.{present_of}
use Rattle.walk.proofs.ReadLaws.{present_of_blank, present_of_kept, own_encodes, knows_none, read_by_knows, only}
use Rattle.walk.specs.Ends.{Ended, Finishes}
use Rattle.walk.specs.Promise.{step_checks}
use Rattle.steps.specs.Promise.{step_list_checks}
use Rattle.survivors.specs.Packets.{came, came_source, came_parity, Stray, EncodesTo}
use Rattle.rebuild.specs.Stages.{decode_checks}
use Rattle.rebuild.specs.Promise.{rebuild_checks, Rebuilt}
use Rattle.survivors.proofs.CameLaws.{encodes_bits, encoded_not_stray}
use Rattle.rebuild.proofs.OneAnswer.{one_source, rebuilt_shaped}
use Rattle.whole_log.specs.Promise.{log_checks}
use Rattle.packet.specs.Promise.{wanted_checks}
use Rattle.packet.proofs.CheckParts.{decoding_decides}
use Rattle.look.specs.Promise.{look_checks}
use Rattle.card.specs.Block.{block_checks}
use Rattle.line.specs.Promise.{sheet_checks}
use Rattle.card.proofs.IBlocks.{taken_exactly, taken_begins}
use Rattle.chain.specs.Run.{block_checks_in, joined_checks}
use Rattle.chain.specs.Cut.{write_checks}
use Rattle.chain.proofs.RunLaws as RunLaws
use Rattle.chain.proofs.CutLaws as CutLaws
use Rattle.chain.proofs.RunAnswers.{decided_at_a_block, run_taken, run_given, written_is_read}
use Rattle.promises.proofs.OneAnswer.{one_judge}
use Rattle.promises.proofs.AnyPacket.{packet_is_what_encode_one_gave}
use Rattle.promises.specs.Demands
use Rattle.promises.specs.Demands.{parity_in, written, at_hand, every_bit, shape_and_lengths, OnePastTheRow, StandsLower, ComesFrom}

-- ---- Demand 1

-- D1.2
pub calls_listed : Demands.CallsListed
calls_listed = record {
  family = λ k m family before number after x. (x.numbered, refl, listed_by (family_checks k m family before) refl);
  judge = λ k m table number growing x. (x.numbered, refl, listed_by (judge_checks k m table) refl);
  packet_length = λ k m l table packet number bytes x. (x.numbered, refl, listed_by (packet_length_checks k m l table packet) refl);
  parities-length = λ k m l table number bytes x. (x.numbered, refl, listed_by (shape_checks k m l table) refl);
  survivors_length = λ k m l table marks number bytes x. (x.numbered, refl, listed_by (marked_checks k m l table marks) refl);
  encode_all = λ k m l table sources before number after x. (x.numbered, refl, listed_by (encode_checks k m l table sources before) refl);
  walk = λ k m l table marks number count whole progress x. (x.numbered, refl, listed_by (marked_checks k m l table marks) refl);
  step = λ k m l table marks progress number parity source after x. (x.numbered, refl, listed_by (step_checks k m l table marks progress) refl);
  check_steps = λ k m l table marks parities sources number place x. (x.numbered, refl, listed_by (step_list_checks k m l table marks parities sources) refl);
  rebuild = λ k m l table marks packets before number count after x. (x.numbered, refl, listed_by (rebuild_checks k m l table marks packets before) refl);
  rebuild_log = λ k m l table stripes marks packets before number good count after x. (x.numbered, refl, listed_by (log_checks k m l table stripes marks packets before) refl);
  packet = λ k m l table marks packets wanted before number after x. (x.numbered, refl, listed_by (wanted_checks k m l table marks packets wanted before) refl);
  look = λ k m l table marks source survivors rebuilt number buffer start bytes x. (x.numbered, refl, listed_by (look_checks k m l table marks source survivors rebuilt) refl);
  block = λ bytes before number count sequence more after x. (x.numbered, refl, listed_by (block_checks bytes (length before)) refl);
  read-blocks = λ run before number count after x.
      let at = decided_at_a_block run (length before) number x.numbered in
      (at.0, at.1, at.2, at.3, (at.4, refl, listed_by (block_checks_in at.0 at.1 ++ joined_checks run (length before)) refl));
  write_blocks = λ packet size before number count after x. (x.numbered, refl, listed_by (write_checks packet size (length before)) refl);
  class_sheet = λ input number k m l x. (x.numbered, refl, listed_by (sheet_checks input) refl);
}

pub exchanged_not_listed : Demands.ExchangedNotListed
exchanged_not_listed = listed_one_way

pub number_of_the_list : Demands.NumberOfTheList
number_of_the_list cs n listed checked = number_in_order the_list cs listed n checked

pub one_number : Demands.OneNumber
one_number = checked_once

pub family_keeps : Demands.FamilyKeeps
family_keeps k m family before number after x = x.refused

pub encode_all_keeps : Demands.EncodeAllKeeps
encode_all_keeps k m l table sources before number after x = x.refused

pub rebuild_keeps : Demands.RebuildKeeps
rebuild_keeps k m l table marks packets before number count after x refuses = (x.refused refuses).0

pub log_keeps : Demands.LogKeeps
log_keeps k m l table stripes marks packets before number good count after x refuses = (whole, λ b. (x.written.kept, x.written.size))
  where
    w : ℕ
    w = sources_bytes (desk k m l table marks)

    whole : ((number ≡ 9) ⊎ (number ≡ 10) → ⊥) → (after ≡ before) × (good ≡ 0)
    whole other =
        let none = x.told.none refuses other in
        let front : good * w ≡ 0 = ap (λ g. g * w) none ∙ zero-mul w in
        (subst (λ i. drop i after ≡ drop i before) front x.written.kept, none)

pub packet_keeps : Demands.PacketKeeps
packet_keeps k m l table marks packets wanted before number after x = x.refused

pub block_keeps : Demands.BlockKeeps
block_keeps block before number count sequence more after x refuses = (x.refused refuses).3

pub blocks_keep : Demands.BlocksKeep
blocks_keep run before number count after x refuses = (x.refused refuses).1

pub written_keeps : Demands.WrittenKeeps
written_keeps packet size before number count after x refuses = (x.refused refuses).1

-- ---- Demand 2

-- D2.1
pub parity_takes_its_row : Demands.ParityTakesItsRow
parity_takes_its_row k m l table marks a accepted la =
    let D = desk k m l table marks in
    let bits = parity_packet_bits D a in
    let bytes = parity_packet_bytes D (k + a) (omega arith) in
    record {
      r = reach D a;
      none_above = within_reach D a;
      one_of_them = reach_is_an_entry D a (shaped k m l table accepted).k_low;
      bits = sym bits;
      holds = omega (arith, bits, bytes);
      least = λ n enough. omega (arith, bits, bytes);
    }

module _ (k m l : ℕ) (table sources before after : List ℕ) (x : EncodedAll k m l table sources before 0 after) where
  abbrev E : Desk
  E = desk k m l table 0

  -- the sources have their length
  encoded_size : length sources ≡ sources_bytes E
  encoded_size =
      let lengths = (passed (shape_checks k m l table) (all_checks E sources before) (numbered_by (shape_checks k m l table) refl) x.numbered).1 in
      (lengths_exact (sources_bytes E) (parities_bytes E) sources before lengths).0

  -- and so has what is written
  written_size : length after ≡ parities_bytes E
  unfolding packets_of place_of
  written_size = ap length (x.done refl) ∙ joined_length (leb k) (packet_of E sources) (packet_bytes E) (packet_size E sources encoded_size) (k + m)

  -- a parity stands in its place
  encoded_parity : (i : ℕ) → k ≤ i → i < k + m → parity_in k m l table after i ≡ packet_of E sources i
  unfolding packets_of place_of
  encoded_parity i ki li =
      rw (x.done refl) (part-joined (leb k) (packet_of E sources) (packet_bytes E) (packet_size E sources encoded_size) (k + m) i li (le-leb k i ki))

pub parities_are_the_sum : Demands.ParitiesAreTheSum
parities_are_the_sum k m l table sources before after x a q la =
    ap (λ xs. bit_at xs q) (encoded_parity k m l table sources before after x (k + a) (omega arith) (omega arith))
    ∙ packet_parity_bits (desk k m l table 0) sources (desk_short k m l table 0 sources) a q la

pub noughts_past_the_sum : Demands.NoughtsPastTheSum
noughts_past_the_sum k m l table sources a q la past =
    let D = desk k m l table 0 in
    ap (λ v. v % 2) (sum_past D (sources_of D sources) (desk_short k m l table 0 sources) a q la past)

pub parities-length_is_the_place : Demands.ParitiesLengthIsThePlace
parities-length_is_the_place k m l table bytes x =
    (x.done refl, λ sources before after y. written_size k m l table sources before after y ∙ sym (x.done refl))

pub five_is_for_another_length : Demands.FiveIsForAnotherLength
five_is_for_another_length k m l table bytes x sources before number after y long =
    let room = x.done refl in
    ((λ e same. asked e (same ∙ room) lengths), (λ other. checked_once lent number 5 lengths (inr ((λ short. short long), inl ((λ same. other (same ∙ sym room)), refl)))))
  where
    D : Desk
    D = desk k m l table 0

    lent : Checks
    lent = all_checks D sources before

    -- the shape is accepted, so the lengths decide
    lengths : Checked lent number
    lengths = rest_decides (shape_checks k m l table) lent number (numbered_by (shape_checks k m l table) refl) x.numbered y.numbered

    asked : number ≡ 5 → length before ≡ parities_bytes D → Checked lent number → ⊥
    asked e same (inl c) = c.0 long
    asked e same (inr (_, inl c)) = c.0 same
    asked e same (inr (_, inr c)) = omega (arith, c.1)

pub one_parity_is_the_sum : Demands.OneParityIsTheSum
one_parity_is_the_sum k m l table marks sources before after a S are_bytes la x q =
    let D = desk k m l table 0 in
    let e : k + a + 1 - 1 ≡ k + a = omega arith in
    let gave = (packet_is_what_encode_one_gave k m l table marks sources (k + a + 1) before 0 after S are_bytes).0 x in
    ap (λ xs. bit_at xs q) (gave.done refl ∙ ap (packet_of D sources) e) ∙ packet_parity_bits D sources (desk_short k m l table 0 sources) a q la

pub one_source_is_the_source : Demands.OneSourceIsTheSource
one_source_is_the_source k m l table marks sources before after c S are_bytes lc x q =
    let D = desk k m l table 0 in
    let e : c + 1 - 1 ≡ c = omega arith in
    let gave = (packet_is_what_encode_one_gave k m l table marks sources (c + 1) before 0 after S are_bytes).0 x in
    ap (λ xs. bit_at xs q) (gave.done refl ∙ ap (packet_of D sources) e) ∙ packet_source_bits D sources c q lc

-- D2.2
-- the judge's yes, for any length and marks
judged_grows : (k m l : ℕ) (table : List ℕ) (marks : ℕ) → Judged k m table 0 1 → Grows (desk k m l table marks)
judged_grows k m l table marks j = flag_holds (j.done refl)

module _ (k m l : ℕ) (table : List ℕ) (marks : ℕ) where
  abbrev D : Desk
  D = desk k m l table marks

  -- where differences grow, steps until none is left are every bit and finish all missing sources
  pub growing_ended : Judged k m table 0 1
      → Checked (marked_checks k m l table marks) 0
      → (n : ℕ) (e : Ended D n)
      → Whole D e.end × (n ≡ every_bit k l marks)
  growing_ended j c n e =
      let r = every-bit D (judged_grows k m l table marks j) (marked_count k m l table marks c) e.reached.run e.stuck in
      (r.0, e.reached.counted ∙ r.1)

  module _ (packets before : List ℕ) where
    -- what rebuild's promise says with the numbers 0 and 8
    rebuilt_encodes : (count : ℕ) (after : List ℕ) → Rebuilt k m l table marks packets before 0 count after → EncodesTo D packets after
    rebuilt_encodes count after x = (x.done refl).1

    rebuilt_finishes : (count : ℕ) (after : List ℕ) → Rebuilt k m l table marks packets before 0 count after → Finishes D count
    rebuilt_finishes count after x = (x.done refl).0

    rebuilt_stalls : (count : ℕ) (after : List ℕ) → Rebuilt k m l table marks packets before 8 count after → Ended D count
    rebuilt_stalls count after x = (x.refused (λ z. omega arith)).1.0 refl

    -- the only sources that encode to the packets
    rebuilt_only : (count : ℕ) (after : List ℕ) → Rebuilt k m l table marks packets before 0 count after → (y : List ℕ) → EncodesTo D packets y → y ≡ after
    rebuilt_only count after x y Y =
        let S = rebuilt_shaped k m l table marks packets before x.numbered in
        one_source D (source_bytes_low l S.l_low) (desk_short k m l table marks) packets count (rebuilt_finishes count after x) y after Y (rebuilt_encodes count after x)

    -- the checks in front of 8, 9 and 10
    abbrev front : Checks
    front = shape_and_lengths k m l table marks packets before

    -- they accept an accepted shape with buffers of their length
    pub front_accepted : Checked (marked_checks k m l table marks) 0 → length packets ≡ survivors_bytes D → length before ≡ sources_bytes D → Checked front 0
    front_accepted c long room =
        let input = input_checks (survivors_bytes D) packets in
        let output = output_checks (sources_bytes D) before in
        let lengths = goes input output 0 (numbered_by input refl) (exactly_long 4 (survivors_bytes D) packets long) (exactly_long 5 (sources_bytes D) before room) in
        goes (marked_checks k m l table marks) (input ++ output) 0 (numbered_by (marked_checks k m l table marks) refl) c lengths

    -- then 8, 9 and 10 decide
    pub decoded : Checked front 0 → (n : ℕ) → Checked (rebuild_checks k m l table marks packets before) n → Checked (decode_checks D packets) n
    decoded c n x = rest_decides front (decode_checks D packets) n (numbered_by front refl) c x

    numbered : Checked front 0 → (n : ℕ) → Checked (decode_checks D packets) n → Checked (rebuild_checks k m l table marks packets before) n
    numbered c n x = goes front (decode_checks D packets) n (numbered_by front refl) c x

pub rebuild_gives_the_sources : Demands.RebuildGivesTheSources
rebuild_gives_the_sources = rebuilt_encodes

pub rebuild_gives_the_only_sources : Demands.RebuildGivesTheOnlySources
rebuild_gives_the_only_sources = rebuilt_only

pub packet_is_of_the_rebuilt_sources : Demands.PacketIsOfTheRebuiltSources
packet_is_of_the_rebuilt_sources k m l table marks packets before wanted after room count sources x y =
    let found = x.done refl in
    let same : found.0 ≡ sources = rebuilt_only k m l table marks packets room count sources y found.0 found.1 in
    found.2 ∙ ap (λ (v : List ℕ). packet_of (desk k m l table marks) v (wanted - 1)) same

module _ (k m l : ℕ) (table : List ℕ) (marks : ℕ) (packets sources : List ℕ) (encodes : EncodesTo (desk k m l table marks) packets sources) where
  abbrev H : Desk
  H = desk k m l table marks

  -- packets that sources encode to have their length,
  encoded_long : length packets ≡ survivors_bytes H
  unfolding packets_of place_of
  encoded_long = ap length encodes.same ∙ joined_length (mark marks) (packet_of H sources) (packet_bytes H) (packet_size H sources encodes.size) (k + m)

  -- and where some order finishes none of 8, 9 and 10 is given
  pub encoded_decodes : (((n : ℕ) → Finishes H n → ⊥) → ⊥) → Checked (decode_checks H packets) 0
  encoded_decodes finishes = inr (finishes, inr (encoded_not_stray H packets sources (desk_short k m l table marks sources) encodes, inr ((λ n. n sources encodes), refl)))

-- where differences grow, some order finishes
growing_finishes : (k m l : ℕ) (table : List ℕ) (marks : ℕ) → Judged k m table 0 1 → Checked (marked_checks k m l table marks) 0 → (n : ℕ) × Finishes (desk k m l table marks) n
growing_finishes k m l table marks yes-said accepted =
    let G = desk k m l table marks in
    let e = some_end G in
    (e.0, ended_finishes G e.0 e.1 (growing_ended k m l table marks yes-said accepted e.0 e.1).0)

-- where some order finishes, rebuild gives the sources that encode to the packets, and its count is that of an order that finishes
pub finishing_gives_the_sources : (k m l : ℕ) (table : List ℕ) (marks : ℕ) (packets before sources : List ℕ) (number count : ℕ) (after : List ℕ)
    → let D = desk k m l table marks in
    Checked (marked_checks k m l table marks) 0
    → EncodesTo D packets sources
    → length before ≡ sources_bytes D
    → (((n : ℕ) → Finishes D n → ⊥) → ⊥)
    → Rebuilt k m l table marks packets before number count after
    → (number ≡ 0) × (after ≡ sources) × Finishes D count
finishing_gives_the_sources k m l table marks packets before sources number count after accepted encodes room finishes x =
    (zero_number, sym (rebuilt_only k m l table marks packets before count after done sources encodes), rebuilt_finishes k m l table marks packets before count after done)
  where
    taken : Checked (rebuild_checks k m l table marks packets before) 0
    taken =
        let c = front_accepted k m l table marks packets before accepted (encoded_long k m l table marks packets sources encodes) room in
        numbered k m l table marks packets before c 0 (encoded_decodes k m l table marks packets sources encodes finishes)

    zero_number : number ≡ 0
    zero_number = checked_once (rebuild_checks k m l table marks packets before) number 0 x.numbered taken

    done : Rebuilt k m l table marks packets before 0 count after
    done = subst (λ n. Rebuilt k m l table marks packets before n count after) zero_number x

pub survivors_give_the_sources : Demands.SurvivorsGiveTheSources
survivors_give_the_sources k m l table marks packets before sources are_bytes size same room yes-said accepted number count after x =
    let G = desk k m l table marks in
    let encodes : EncodesTo G packets sources = record { size = size; are_bytes = are_bytes; same = same } in
    let F = growing_finishes k m l table marks yes-said accepted in
    let given = finishing_gives_the_sources k m l table marks packets before sources number count after accepted encodes room (λ never. never F.0 F.1) x in
    (given.0, given.1, (growing_ended k m l table marks yes-said accepted count (finishes_ends G count given.2)).1)

pub any_packet_from_any_k : Demands.AnyPacketFromAnyK
any_packet_from_any_k k m l table marks packets sources encodes yes-said accepted i li before room number after x = (zero_number, given)
  where
    G : Desk
    G = desk k m l table marks

    next : i + 1 - 1 ≡ i
    next = omega arith

    F : (n : ℕ) × Finishes G n
    F = growing_finishes k m l table marks yes-said accepted

    parts : Checked (shape_checks k m l table) 0 × Checked (marks_checks k m marks) 0
    parts = marked_parts k m l table marks accepted

    taken : Checked (wanted_checks k m l table marks packets (i + 1) before) 0
    taken =
        let long = encoded_long k m l table marks packets sources encodes in
        let decodes = encoded_decodes k m l table marks packets sources encodes (λ never. never F.0 F.1) in
        decoding_decides k m l table marks packets (i + 1) before parts.0 parts.1 (omega arith) (omega arith) long (room ∙ ap (packet_bytes G) (sym next)) 0 decodes

    zero_number : number ≡ 0
    zero_number = checked_once (wanted_checks k m l table marks packets (i + 1) before) number 0 x.numbered taken

    given : after ≡ packet_of G sources i
    given =
        let found = x.done zero_number in
        let some = source_bytes_low l (shaped k m l table parts.0).l_low in
        let one = one_source G some (desk_short k m l table marks) packets F.0 F.1 found.0 sources found.1 encodes in
        found.2 ∙ ap₂ (packet_of G) one next

-- the same lists, one after another
joined_same : (on : ℕ → Bool) (f g : ℕ → List ℕ) (n : ℕ) → ((i : ℕ) → i < n → f i ≡ g i) → joined on f n ≡ joined on g n
unfolding joined
joined_same on f g zero h = refl
joined_same on f g (suc n) h = ap₂ ◌++◌ (joined_same on f g n (λ i l. h i (omega arith))) (ap (λ (x : List ℕ). pick (on n) x []) (h n (omega arith)))

-- what encode all wrote, and the sources, are the packets
written_packet : (k m l : ℕ) (table sources parities room : List ℕ)
    → EncodedAll k m l table sources room 0 parities
    → (i : ℕ)
    → i < k + m
    → written k m l table sources parities i ≡ packet_of (desk k m l table 0) sources i
unfolding packet_of
written_packet k m l table sources parities room x i li = elim (dec_lt i k) [
  | yes lk ↦ rw (lt-ltb i k lk)
  | no lk ↦
      let g : k ≤ i = omega arith in
      let a-parity : written k m l table sources parities i ≡ parity_in k m l table parities i = rw (le-ltb i k g) in
      a-parity ∙ encoded_parity k m l table sources room parities x i g li
]

-- and so the sources encode to those of them that the marks name
at_hand_encodes : (k m l : ℕ) (table sources parities room : List ℕ)
    → Bytes sources
    → EncodedAll k m l table sources room 0 parities
    → (marks : ℕ)
    → EncodesTo (desk k m l table marks) (at_hand k m l table sources parities marks) sources
unfolding packets_of
at_hand_encodes k m l table sources parities room are_bytes x marks =
    record { size = encoded_size k m l table sources room parities x; are_bytes = are_bytes; same = joined_same (mark marks) (written k m l table sources parities) (packet_of D sources) (k + m) each }
  where
    D : Desk
    D = desk k m l table marks

    each : (i : ℕ) → i < k + m → written k m l table sources parities i ≡ packet_of D sources i
    each i li = written_packet k m l table sources parities room x i li ∙ packet_ignores_present (desk k m l table 0) (mark marks) sources i

pub encode_lose_rebuild : Demands.EncodeLoseRebuild
encode_lose_rebuild k m l table sources parities room are_bytes x yes-said marks accepted before long =
    let E = at_hand_encodes k m l table sources parities room are_bytes x marks in
    survivors_give_the_sources k m l table marks (at_hand k m l table sources parities marks) before sources are_bytes E.size E.same long yes-said accepted

pub encode_lose_make : Demands.EncodeLoseMake
encode_lose_make k m l table sources parities room are_bytes x yes-said marks accepted i li before long number after y =
    let E = at_hand_encodes k m l table sources parities room are_bytes x marks in
    let made = any_packet_from_any_k k m l table marks (at_hand k m l table sources parities marks) sources E yes-said accepted i li before long number after y in
    (made.0, made.1 ∙ sym (written_packet k m l table sources parities room x i li ∙ packet_ignores_present (desk k m l table 0) (mark marks) sources i))

-- D2.3
pub refuses_exactly : Demands.RefusesExactly
refuses_exactly k m l table marks packets before number count after x c walks =
    let d = decoded k m l table marks packets before c number x.numbered in
    ((λ e y Y. none e y Y d), (λ none. which none d))
  where
    G : Desk
    G = desk k m l table marks

    none : (number ≡ 9) ⊎ (number ≡ 10) → (y : List ℕ) → EncodesTo G packets y → Checked (decode_checks G packets) number → ⊥
    none e y Y (inl d) = walks d.1
    none e y Y (inr (_, inl d)) = encoded_not_stray G packets y (desk_short k m l table marks y) Y d.0
    none e y Y (inr (_, inr (_, inl d))) = d.0 y Y
    none (inl e) y Y (inr (_, inr (_, inr d))) = omega (arith, d.1)
    none (inr e) y Y (inr (_, inr (_, inr d))) = omega (arith, d.1)

    which : ((y : List ℕ) → EncodesTo G packets y → ⊥) → Checked (decode_checks G packets) number → (number ≡ 9) ⊎ (number ≡ 10)
    which n (inl d) = absurd (walks d.1)
    which n (inr (_, inl d)) = inl d.1
    which n (inr (_, inr (_, inl d))) = inr d.1
    which n (inr (_, inr (_, inr d))) = absurd (d.0 n)

-- a stray one stands in a parity, since a source fills its bytes, and past its own row
stray_past_the_row : (k m l : ℕ) (table : List ℕ) (marks : ℕ) (packets : List ℕ) → Stray (desk k m l table marks) packets → OnePastTheRow k m l table marks packets
unfolding came_parity
stray_past_the_row k m l table marks packets (i, li, here, (p, lp, set)) =
    by_kind G (λ j. j < k + m → mark marks j ≡ true → packet_bits G j ≤ p → bit_at (came G packets j) p ≡ 1 → OnePastTheRow k m l table marks packets) of_source of_parity i li here lp set
  where
    G : Desk
    G = desk k m l table marks

    of_source : (c : ℕ) → c < k → c < k + m → mark marks c ≡ true → packet_bits G c ≤ p → bit_at (came G packets c) p ≡ 1 → OnePastTheRow k m l table marks packets
    of_source c lc _ _ past set =
        let none = slice_past packets (place_of G (mark marks) c) (packet_bytes G c) p (omega (arith, source_full l, source_packet_bits G c lc, source_packet_bytes G c lc)) in
        absurd (omega (arith, none, set))

    of_parity : (a : ℕ) → k + a < k + m → mark marks (k + a) ≡ true → packet_bits G (k + a) ≤ p → bit_at (came G packets (k + a)) p ≡ 1 → OnePastTheRow k m l table marks packets
    of_parity a la held past set = (a, omega arith, held, (p, (λ b lb. omega (arith, within_reach G a b lb, parity_packet_bits G a)), set))

past_the_row_stray : (k m l : ℕ) (table : List ℕ) (marks : ℕ) (packets : List ℕ) → 1 ≤ k → OnePastTheRow k m l table marks packets → Stray (desk k m l table marks) packets
unfolding came_parity
past_the_row_stray k m l table marks packets some (a, la, held, (p, past, set)) =
    let G = desk k m l table marks in
    let furthest = reach_is_an_entry G a some in
    (k + a, omega arith, held, (p, omega (arith, parity_packet_bits G a, furthest.2, past furthest.0 furthest.1), set))

pub nine_goes_by_the_row : Demands.NineGoesByTheRow
nine_goes_by_the_row k m l table marks packets before number count after x c walks =
    let d = decoded k m l table marks packets before c number x.numbered in
    ((λ e. stray_past_the_row k m l table marks packets (strays e d)), (λ w. which (past_the_row_stray k m l table marks packets some w) d))
  where
    G : Desk
    G = desk k m l table marks

    some : 1 ≤ k
    some =
        let lengths = input_checks (survivors_bytes G) packets ++ output_checks (sources_bytes G) before in
        let marked = (passed (marked_checks k m l table marks) lengths (numbered_by (marked_checks k m l table marks) refl) c).0 in
        (shaped k m l table (marked_parts k m l table marks marked).0).k_low

    strays : number ≡ 9 → Checked (decode_checks G packets) number → Stray G packets
    strays e (inl d) = absurd (omega (arith, d.1))
    strays e (inr (_, inl d)) = d.0
    strays e (inr (_, inr (_, inl d))) = absurd (omega (arith, d.1))
    strays e (inr (_, inr (_, inr d))) = absurd (omega (arith, d.1))

    which : Stray G packets → Checked (decode_checks G packets) number → number ≡ 9
    which s (inl d) = absurd (walks d.1)
    which s (inr (_, inl d)) = d.1
    which s (inr (_, inr (n, _))) = absurd (n s)

pub stalls_exactly : Demands.StallsExactly
stalls_exactly k m l table marks packets before number count after x c =
    let d = decoded k m l table marks packets before c number x.numbered in
    ((λ e. stalls e d), (λ n. checked_once (decode_checks G packets) number 8 d (inl (n, refl))))
  where
    G : Desk
    G = desk k m l table marks

    stalls : number ≡ 8 → Checked (decode_checks G packets) number → (n : ℕ) → Finishes G n → ⊥
    stalls e (inl d) = d.0
    stalls e (inr (_, inl d)) = absurd (omega (arith, d.1))
    stalls e (inr (_, inr (_, inl d))) = absurd (omega (arith, d.1))
    stalls e (inr (_, inr (_, inr d))) = absurd (omega (arith, d.1))

-- D2.4
pub block_taken_exactly : Demands.BlockTakenExactly
block_taken_exactly block before number count sequence more after are_bytes x = taken_exactly block before are_bytes x

pub block_gives_its_information : Demands.BlockGivesItsInformation
block_gives_its_information block before count sequence more after sequence' more' info x b = taken_begins block before x b

pub run_once : Demands.RunOnce
run_once run info info' r r' = RunLaws.run_once r r'

pub run_taken_exactly : Demands.RunTakenExactly
run_taken_exactly run before number count after x = run_taken run before x

pub run_gives_its_information : Demands.RunGivesItsInformation
run_gives_its_information run before count after info x r = run_given run before x refl r

pub cut_is_a_run : Demands.CutIsARun
cut_is_a_run = CutLaws.cut_is_a_run

pub cut_length : Demands.CutLength
cut_length = CutLaws.cut_length

pub read_what_was_written : Demands.ReadWhatWasWritten
read_what_was_written packet size before count after w room fits number read joined x = written_is_read packet size before after count w room fits x

-- ---- Demand 3

-- D3.1
next_stands_lower : {D : Desk} {progress : List ℕ} {parity source : ℕ} {after : List ℕ}
    → (parity ≡ 0 → ⊥)
    → Next D progress parity source after
    → StandsLower D progress parity source after
next_stands_lower n (none u p q e) = absurd (n p)
next_stands_lower n (one a b w p q e) = record {
  a = a;
  b = b;
  parity_is = p;
  source_is = q;
  at-hand = w.bare.held;
  unfinished = w.bare.free;
  lower = w.bare.lowest;
  uncovers = e;
}

pub step_stands_lower : Demands.StepStandsLower
step_stands_lower k m l table marks progress parity source after x some = next_stands_lower some (x.done refl)

pub each_step_stands_lower : Demands.EachStepStandsLower
each_step_stands_lower k m l table marks o o' a b h u =
    let r = run_split (desk k m l table marks) o a b u in
    (r.0, r.1, r.2.held, r.2.free, r.2.lowest)

-- D3.2
pub all_orders_end_alike : Demands.AllOrdersEndAlike
all_orders_end_alike k m l table marks o o' h h' = same_end (desk k m l table marks)

pub every_order_ends : Demands.EveryOrderEnds
every_order_ends k m l table marks o h u =
    let G = desk k m l table marks in
    omega (arith, run_short G u (λ b. omega arith), total_none G)

pub walk_tells : Demands.WalkTells
walk_tells k m l table marks count whole progress x o h u s =
    let f = x.done refl in
    let e = same_end (desk k m l table marks) u s f.reached.run f.stuck in
    (e.0 ∙ sym f.reached.counted, e.1)

pub none_finishes_exactly : Demands.NoneFinishesExactly
none_finishes_exactly k m l table marks count whole progress x =
    let G = desk k m l table marks in
    let f = x.done refl in
    ((λ z o h u full. none_finishes G count (finished_ended G f) (flag_down f.flagged z) (length o) (whole_finishes G u full)), (λ n. flag_low f.flagged (n _ _ f.reached.run)))

-- D3.3
pub growing_order_is_whole : Demands.GrowingOrderIsWhole
growing_order_is_whole k m l table marks count whole progress j x o h u s =
    growing_ended k m l table marks j x.numbered (length o) record { end = h; reached = record { order = o; run = u; counted = refl }; stuck = s }

pub growing_walk_is_whole : Demands.GrowingWalkIsWhole
growing_walk_is_whole k m l table marks count whole progress j x =
    let f = x.done refl in
    let e = growing_order_is_whole k m l table marks count whole progress j x f.reached.order (at progress) f.reached.run f.stuck in
    (flag_up f.flagged e.0, f.reached.counted ∙ e.1)

module _ (k m family : ℕ) (before table : List ℕ) (w : FamilyWritten k m family before 0 table) where
  -- the judge says yes of what was written
  family_judged : Judged k m table 0 1
  family_judged =
      let F = w.done refl in
      let p = passed (size_checks k m) (family_number_checks family ++ output_checks (m * k) before) (numbered_by (size_checks k m) refl) w.numbered in
      let one_of = family_in_range family (passed (family_number_checks family) (output_checks (m * k) before) (numbered_by (family_number_checks family) refl) p.1).0 in
      let low = family_low family k m table one_of.0 one_of.1 (sized k m p.0) F in
      record {
        numbered = goes (size_checks k m) (table_checks k m table) 0 (numbered_by (size_checks k m) refl) p.0 (inr (neither (λ n. n F.size) (λ x. omega (arith, low x.0, x.1)), refl));
        refused = λ n. absurd (n refl);
        done = λ _. inl (family_grows family k m table one_of.0 one_of.1 F, refl);
      }

pub family_gets_yes : Demands.FamilyGetsYes
family_gets_yes k m family before table number growing w j = one_judge k m table j (family_judged k m family before table w)

pub family_order_is_whole : Demands.FamilyOrderIsWhole
family_order_is_whole k m family before table w l marks accepted o h u s =
    growing_ended k m l table marks (family_judged k m family before table w) accepted (length o) record { end = h; reached = record { order = o; run = u; counted = refl }; stuck = s }

pub hankel_largest_shift : Demands.HankelLargestShift
hankel_largest_shift k m before table w =
    let z = sized k m (passed (size_checks k m) (family_number_checks 2 ++ output_checks (m * k) before) (numbered_by (size_checks k m) refl) w.numbered).0 in
    hankel_table_largest k m table z.k_low z.m_low (w.done refl)

-- D3.4
pub every_order_reads_the_sources : Demands.EveryOrderReadsTheSources
every_order_reads_the_sources k m l table marks r s x o h from u c p =
    let G = desk k m l table marks in
    (read_by_knows G r u s x from.1 (knows_none G r s x from.0 from.1)).below c p

pub finished_order_has_the_sources : Demands.FinishedOrderHasTheSources
finished_order_has_the_sources k m l table marks r s x o h from u w = only (desk k m l table marks) r s from.0 u w x from.1

pub every_order_reads_what_was_encoded : Demands.EveryOrderReadsWhatWasEncoded
every_order_reads_what_was_encoded k m l table marks x o h X u =
    let G = desk k m l table marks in
    every_order_reads_the_sources k m l table marks (parity G x) (present_of G x) x o h (present_of_blank G x, own_encodes G x X) u

module _ (k m l : ℕ) (table : List ℕ) (marks : ℕ) (packets x : List ℕ) where
  -- the packets that came, as bits, come from the sources
  packets_come_from : let D = desk k m l table marks in EncodesTo D packets x → ComesFrom D (came_parity D packets) (present_of D (came_source D packets)) (sources_of D x)
  unfolding came_source
  packets_come_from E =
      let G = desk k m l table marks in
      let s = came_source G packets in
      (present_of_blank G s, encodes_bits G packets x (desk_short k m l table marks x) (present_of G s) (λ c p lc e. present_of_kept G s c p e ∙ rw (lt-ltb c k lc)) E)

pub every_order_reads_the_packets : Demands.EveryOrderReadsThePackets
every_order_reads_the_packets k m l table marks packets x o h E u =
    let G = desk k m l table marks in
    every_order_reads_the_sources k m l table marks (came_parity G packets) (present_of G (came_source G packets)) (sources_of G x) o h (packets_come_from k m l table marks packets x E) u

pub finished_order_has_the_packets : Demands.FinishedOrderHasThePackets
finished_order_has_the_packets k m l table marks packets x o h E u =
    let G = desk k m l table marks in
    finished_order_has_the_sources k m l table marks (came_parity G packets) (present_of G (came_source G packets)) (sources_of G x) o h (packets_come_from k m l table marks packets x E) u

pub every_order_reads_what_encode_all_wrote : Demands.EveryOrderReadsWhatEncodeAllWrote
every_order_reads_what_encode_all_wrote k m l table sources parities room are_bytes x marks o h =
    every_order_reads_the_packets k m l table marks (at_hand k m l table sources parities marks) sources o h (at_hand_encodes k m l table sources parities room are_bytes x marks)

-- D3.5
pub rebuild_counts_every_order : Demands.RebuildCountsEveryOrder
rebuild_counts_every_order k m l table marks packets before number count after x e o h u s =
    one_count G count (length o) (ended e) (record { end = h; reached = record { order = o; run = u; counted = refl }; stuck = s })
  where
    G : Desk
    G = desk k m l table marks

    answered : (n : ℕ) → number ≡ n → Rebuilt k m l table marks packets before n count after
    answered n z = subst (λ i. Rebuilt k m l table marks packets before i count after) z x

    ended : (number ≡ 0) ⊎ (number ≡ 8) → Ended G count
    ended (inl z) = finishes_ends G count (rebuilt_finishes k m l table marks packets before count after (answered 0 z))
    ended (inr z) = rebuilt_stalls k m l table marks packets before count after (answered 8 z)
