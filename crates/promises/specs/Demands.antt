-- The demands, sentence by sentence, and what each says of the calls, over their own inputs. proofs/Demands proves each statement: `ParitiesAreTheSum` is proved as `parities-are-the-sum`.
use Rattle.std.specs.Prelude.{◌≡◌, ◌↔◌, ◌≢◌, ◌⊎◌, List, [], ◌∷◌, ◌++◌, true, not, ℕ, ◌+◌, ◌-◌, ◌*◌, ◌/◌, ◌≤◌, ◌<◌, leb, ltb, length, take, drop, set}
use Rattle.bits.specs.Sums.{at, count, pick}
use Rattle.bits.specs.Bits.{Bytes, bit_at, slice, part, joined}
use Rattle.table.specs.Desk.{Desk, desk, entry, most, mark, source_bits, source_bytes, sources_bytes, survivors_bytes, packet_bits, packet_bytes, place_of}
use Rattle.table.specs.Checks.{Checks, Checked, the_list, InOrder, numbers_of, Listed, Refuses, shape_checks, marked_checks, input_checks, output_checks}
use Rattle.family.specs.Promise.{family_checks, FamilyWritten, judge_checks, Judged}
use Rattle.code.specs.Code.{Bits, parity, sources_of, packet_of, survivors_of, Source, Encodes}
use Rattle.encode.specs.Promise.{encode_checks, EncodedAll, packet_length_checks, PacketMeasured, ParitiesMeasured, SurvivorsMeasured}
use Rattle.walk.specs.Walk.{Order, Gone, Held, Free, Stuck, Run, Whole}
use Rattle.walk.specs.Read.{present_of, read_by}
use Rattle.walk.specs.Promise.{Walked, step_checks, Stepped}
use Rattle.walk.specs.Ends.{Finishes}
use Rattle.steps.specs.Promise.{step_list_checks, StepsChecked}
use Rattle.survivors.specs.Packets.{EncodesTo, came_source, came_parity}
use Rattle.rebuild.specs.Promise.{rebuild_checks, Rebuilt}
use Rattle.whole_log.specs.Promise.{log_checks, LogRebuilt}
use Rattle.packet.specs.Promise.{wanted_checks, PacketMade}
use Rattle.look.specs.Promise.{look_checks, LookedAt}
use Rattle.card.specs.Block.{max_information, block_checks, IBlock}
use Rattle.card.specs.Promise.{BlockTaken}
use Rattle.chain.specs.Run.{BlockRun, block_checks_in, joined_checks, Reached, ReadingEnds}
use Rattle.chain.specs.Cut.{cut_into, write_checks}
use Rattle.chain.specs.Promise.{BlocksRead, BlocksWritten}
use Rattle.line.specs.Promise.{sheet_checks, LineRead}
use Rattle.promises.specs.AnyPacket.{SourcesMarked}

-- ---- Demand 1

-- D1.1 Every call takes any numbers and any bytes, ends, and reads or writes nothing outside what it was lent.
-- That is what it says of a function of this language, with no `requires`, that it is proved.

-- D1.2 Bad input gets the number from our list, in the listed order, and the output it was lent keeps its old bytes.

-- The list is `theList` of table, specs/Checks. A call's number is that of the first of its checks that refuses; its checks have these numbers, and are made in the order of the list.
abbrev pub MadeInOrder : Checks → List ℕ → ℕ → Type 0
MadeInOrder checks numbers number = Checked checks number × (numbers_of checks ≡ numbers) × Listed checks

pub record CallsListed : Type 0 where
  pub family : (k m family : ℕ) (before : List ℕ) (number : ℕ) (after : List ℕ)
      → FamilyWritten k m family before number after
      → MadeInOrder (family_checks k m family before) (1 ∷ 19 ∷ 5 ∷ []) number
  pub judge : (k m : ℕ) (table : List ℕ) (number growing : ℕ)
      → Judged k m table number growing
      → MadeInOrder (judge_checks k m table) (1 ∷ 3 ∷ []) number
  pub packet_length : (k m l : ℕ) (table : List ℕ) (packet number bytes : ℕ)
      → PacketMeasured k m l table packet number bytes
      → MadeInOrder (packet_length_checks k m l table packet) (1 ∷ 2 ∷ 3 ∷ 6 ∷ []) number
  pub parities-length : (k m l : ℕ) (table : List ℕ) (number bytes : ℕ)
      → ParitiesMeasured k m l table number bytes
      → MadeInOrder (shape_checks k m l table) (1 ∷ 2 ∷ 3 ∷ []) number
  pub survivors_length : (k m l : ℕ) (table : List ℕ) (marks number bytes : ℕ)
      → SurvivorsMeasured k m l table marks number bytes
      → MadeInOrder (marked_checks k m l table marks) (1 ∷ 2 ∷ 3 ∷ 6 ∷ 7 ∷ []) number
  pub encode_all : (k m l : ℕ) (table sources before : List ℕ) (number : ℕ) (after : List ℕ)
      → EncodedAll k m l table sources before number after
      → MadeInOrder (encode_checks k m l table sources before) (1 ∷ 2 ∷ 3 ∷ 4 ∷ 5 ∷ []) number
  pub walk : (k m l : ℕ) (table : List ℕ) (marks number count whole : ℕ) (progress : List ℕ)
      → Walked k m l table marks number count whole progress
      → MadeInOrder (marked_checks k m l table marks) (1 ∷ 2 ∷ 3 ∷ 6 ∷ 7 ∷ []) number
  pub step : (k m l : ℕ) (table : List ℕ) (marks : ℕ) (progress : List ℕ) (number parity source : ℕ) (after : List ℕ)
      → Stepped k m l table marks progress number parity source after
      → MadeInOrder (step_checks k m l table marks progress) (1 ∷ 2 ∷ 3 ∷ 6 ∷ 7 ∷ 17 ∷ []) number
  pub check_steps : (k m l : ℕ) (table : List ℕ) (marks : ℕ) (parities sources : List ℕ) (number place : ℕ)
      → StepsChecked k m l table marks parities sources number place
      → MadeInOrder (step_list_checks k m l table marks parities sources) (1 ∷ 2 ∷ 3 ∷ 6 ∷ 7 ∷ 22 ∷ 23 ∷ 24 ∷ []) number
  pub rebuild : (k m l : ℕ) (table : List ℕ) (marks : ℕ) (packets before : List ℕ) (number count : ℕ) (after : List ℕ)
      → Rebuilt k m l table marks packets before number count after
      → MadeInOrder (rebuild_checks k m l table marks packets before) (1 ∷ 2 ∷ 3 ∷ 6 ∷ 7 ∷ 4 ∷ 5 ∷ 8 ∷ 9 ∷ 10 ∷ []) number
  pub rebuild_log : (k m l : ℕ) (table : List ℕ) (stripes marks : ℕ) (packets before : List ℕ) (number good count : ℕ) (after : List ℕ)
      → LogRebuilt k m l table stripes marks packets before number good count after
      → MadeInOrder (log_checks k m l table stripes marks packets before) (1 ∷ 2 ∷ 3 ∷ 25 ∷ 6 ∷ 7 ∷ 4 ∷ 5 ∷ 8 ∷ 9 ∷ 10 ∷ []) number
  pub packet : (k m l : ℕ) (table : List ℕ) (marks : ℕ) (packets : List ℕ) (wanted : ℕ) (before : List ℕ) (number : ℕ) (after : List ℕ)
      → PacketMade k m l table marks packets wanted before number after
      → MadeInOrder (wanted_checks k m l table marks packets wanted before) (1 ∷ 2 ∷ 3 ∷ 6 ∷ 7 ∷ 4 ∷ 5 ∷ 8 ∷ 9 ∷ 10 ∷ []) number
  pub look : (k m l : ℕ) (table : List ℕ) (marks source : ℕ) (survivors rebuilt : List ℕ) (number buffer start bytes : ℕ)
      → LookedAt k m l table marks source survivors rebuilt number buffer start bytes
      → MadeInOrder (look_checks k m l table marks source survivors rebuilt) (1 ∷ 2 ∷ 3 ∷ 6 ∷ 7 ∷ 4 ∷ 4 ∷ []) number
  pub block : (bytes before : List ℕ) (number count sequence more : ℕ) (after : List ℕ)
      → BlockTaken bytes before number count sequence more after
      → MadeInOrder (block_checks bytes (length before)) (11 ∷ 12 ∷ 13 ∷ 14 ∷ 15 ∷ 16 ∷ []) number
  -- of a run at the block at which the reading ends: each one before it refuses nothing and has M set
  pub read-blocks : (run before : List ℕ) (number count : ℕ) (after : List ℕ)
      → BlocksRead run before number count after
      → (turn : ℕ) × (left : List ℕ) × Reached 0 run turn left × ReadingEnds turn left
      × MadeInOrder (block_checks_in turn left ++ joined_checks run (length before)) (11 ∷ 12 ∷ 13 ∷ 14 ∷ 15 ∷ 20 ∷ 21 ∷ 16 ∷ []) number
  pub write_blocks : (packet : List ℕ) (size : ℕ) (before : List ℕ) (number count : ℕ) (after : List ℕ)
      → BlocksWritten packet size before number count after
      → MadeInOrder (write_checks packet size (length before)) (36 ∷ 4 ∷ 16 ∷ []) number
  pub class_sheet : (input : List ℕ) (number k m l : ℕ)
      → LineRead (sheet_checks input) input number k m l
      → MadeInOrder (sheet_checks input) (18 ∷ 1 ∷ 2 ∷ []) number

-- No two of a call's checks can be exchanged but such as have the same number.
abbrev pub ExchangedNotListed : Type 1
ExchangedNotListed =
    (front between back : Checks) (c d : ℕ × Type 0)
    → Listed (front ++ c ∷ (between ++ d ∷ back))
    → Listed (front ++ d ∷ (between ++ c ∷ back))
    → c.0 ≡ d.0

-- So the number is 0 and no check refuses; or it is that of a check that refuses, and none that refuses stands before it in the list.
abbrev pub NumberOfTheList : Type 1
NumberOfTheList =
    (cs : Checks) (n : ℕ)
    → Listed cs
    → Checked cs n
    → ((n ≡ 0) × ((x : ℕ) → Refuses cs x → ⊥)) ⊎ (Refuses cs n × ((x : ℕ) → Refuses cs x → InOrder (n ∷ x ∷ []) the_list))

-- There is one such number.
abbrev pub OneNumber : Type 1
OneNumber = (cs : Checks) (n n' : ℕ) → Checked cs n → Checked cs n' → n ≡ n'

-- Each call that is lent an output keeps it.
abbrev pub FamilyKeeps : Type 0
FamilyKeeps =
    (k m family : ℕ) (before : List ℕ) (number : ℕ) (after : List ℕ)
    → FamilyWritten k m family before number after
    → (number ≡ 0 → ⊥)
    → after ≡ before

abbrev pub EncodeAllKeeps : Type 0
EncodeAllKeeps =
    (k m l : ℕ) (table sources before : List ℕ) (number : ℕ) (after : List ℕ)
    → EncodedAll k m l table sources before number after
    → (number ≡ 0 → ⊥)
    → after ≡ before

abbrev pub RebuildKeeps : Type 0
RebuildKeeps =
    (k m l : ℕ) (table : List ℕ) (marks : ℕ) (packets before : List ℕ) (number count : ℕ) (after : List ℕ)
    → Rebuilt k m l table marks packets before number count after
    → (number ≡ 0 → ⊥)
    → after ≡ before

-- Rebuild log keeps it whole and tells of no stripe; but with 9 and 10, where the good stripes' sources are written, it keeps it from the bad stripe on, and its length.
abbrev pub LogKeeps : Type 0
LogKeeps =
    (k m l : ℕ) (table : List ℕ) (stripes marks : ℕ) (packets before : List ℕ) (number good count : ℕ) (after : List ℕ)
    → LogRebuilt k m l table stripes marks packets before number good count after
    → (number ≡ 0 → ⊥)
    → let w = sources_bytes (desk k m l table marks) in
    (((number ≡ 9) ⊎ (number ≡ 10) → ⊥) → (after ≡ before) × (good ≡ 0))
    × ((number ≡ 9) ⊎ (number ≡ 10) → (drop (good * w) after ≡ drop (good * w) before) × (length after ≡ length before))

abbrev pub PacketKeeps : Type 0
PacketKeeps =
    (k m l : ℕ) (table : List ℕ) (marks : ℕ) (packets : List ℕ) (wanted : ℕ) (before : List ℕ) (number : ℕ) (after : List ℕ)
    → PacketMade k m l table marks packets wanted before number after
    → (number ≡ 0 → ⊥)
    → after ≡ before

abbrev pub BlockKeeps : Type 0
BlockKeeps =
    (block before : List ℕ) (number count sequence more : ℕ) (after : List ℕ)
    → BlockTaken block before number count sequence more after
    → (number ≡ 0 → ⊥)
    → after ≡ before

abbrev pub BlocksKeep : Type 0
BlocksKeep =
    (run before : List ℕ) (number count : ℕ) (after : List ℕ)
    → BlocksRead run before number count after
    → (number ≡ 0 → ⊥)
    → after ≡ before

abbrev pub WrittenKeeps : Type 0
WrittenKeeps =
    (packet : List ℕ) (size : ℕ) (before : List ℕ) (number count : ℕ) (after : List ℕ)
    → BlocksWritten packet size before number count after
    → (number ≡ 0 → ⊥)
    → after ≡ before

-- ---- Demand 2

-- D2.1 Encoding is the polynomial sum of the published papers.

-- A parity takes what its own row needs.

-- r is the largest entry of row a: none is above it, and it is one of them; parity a has the bits of a source and r more, in the fewest bytes that hold them
pub record TakesItsRow (k m l : ℕ) (table : List ℕ) (marks a : ℕ) : Type 0 where
  pub r : ℕ
  pub none_above : (b : ℕ) → b < k → entry k table a b ≤ r
  pub one_of_them : (b : ℕ) × (b < k) × (r ≡ entry k table a b)
  pub bits : packet_bits (desk k m l table marks) (k + a) ≡ source_bits l + r
  pub holds : source_bits l + r ≤ 8 * packet_bytes (desk k m l table marks) (k + a)
  pub least : (n : ℕ) → source_bits l + r ≤ 8 * n → packet_bytes (desk k m l table marks) (k + a) ≤ n

-- For every accepted shape and whatever packets are at hand.
abbrev pub ParityTakesItsRow : Type 0
ParityTakesItsRow =
    (k m l : ℕ) (table : List ℕ) (marks a : ℕ) → Checked (shape_checks k m l table) 0 → a < m → TakesItsRow k m l table marks a

-- bit q of parity a of these sources: the sum over all sources, shifted up by their entries, modulo 2
abbrev pub sum_bit : ℕ → ℕ → ℕ → List ℕ → List ℕ → ℕ → ℕ → ℕ
sum_bit k m l table sources a q = let D = desk k m l table 0 in parity D (sources_of D sources) a q

-- packet i, a parity, where it stands among all parities, one after another
abbrev pub parity_in : ℕ → ℕ → ℕ → List ℕ → List ℕ → ℕ → List ℕ
parity_in k m l table parities i = let D = desk k m l table 0 in slice parities (place_of D (leb k) i) (packet_bytes D i)

-- Encode all: parity a stands in its place, each of its bits is the sum, and past the sum's last bit stand noughts.
abbrev pub ParitiesAreTheSum : Type 0
ParitiesAreTheSum =
    (k m l : ℕ) (table sources before after : List ℕ)
    → EncodedAll k m l table sources before 0 after
    → (a q : ℕ)
    → a < m
    → bit_at (parity_in k m l table after (k + a)) q ≡ sum_bit k m l table sources a q

abbrev pub NoughtsPastTheSum : Type 0
NoughtsPastTheSum =
    (k m l : ℕ) (table sources : List ℕ) (a q : ℕ) → a < m → packet_bits (desk k m l table 0) (k + a) ≤ q → sum_bit k m l table sources a q ≡ 0

-- What it writes is as long as parities' length says: the place behind the last parity.
abbrev pub ParitiesLengthIsThePlace : Type 0
ParitiesLengthIsThePlace =
    (k m l : ℕ) (table : List ℕ) (bytes : ℕ)
    → ParitiesMeasured k m l table 0 bytes
    → (bytes ≡ place_of (desk k m l table 0) (leb k) (k + m))
    × ((sources before after : List ℕ) → EncodedAll k m l table sources before 0 after → length after ≡ bytes)

-- Where the shape is accepted and the sources have their length, 5 is for an output of any other.
abbrev pub FiveIsForAnotherLength : Type 0
FiveIsForAnotherLength =
    (k m l : ℕ) (table : List ℕ) (bytes : ℕ)
    → ParitiesMeasured k m l table 0 bytes
    → (sources before : List ℕ) (number : ℕ) (after : List ℕ)
    → EncodedAll k m l table sources before number after
    → length sources ≡ sources_bytes (desk k m l table 0)
    → (number ≡ 5) ↔ (length before ≡ bytes → ⊥)

-- One packet, encoded from the sources: a parity's bits are the sum, a source's are the source's.
abbrev pub OneParityIsTheSum : Type 0
OneParityIsTheSum =
    (k m l : ℕ) (table : List ℕ) (marks : ℕ) (sources before after : List ℕ) (a : ℕ)
    → SourcesMarked k marks
    → Bytes sources
    → a < m
    → PacketMade k m l table marks sources (k + a + 1) before 0 after
    → (q : ℕ)
    → bit_at after q ≡ sum_bit k m l table sources a q

abbrev pub OneSourceIsTheSource : Type 0
OneSourceIsTheSource =
    (k m l : ℕ) (table : List ℕ) (marks : ℕ) (sources before after : List ℕ) (c : ℕ)
    → SourcesMarked k marks
    → Bytes sources
    → c < k
    → PacketMade k m l table marks sources (c + 1) before 0 after
    → (q : ℕ)
    → bit_at after q ≡ sources_of (desk k m l table 0) sources c q

-- D2.2 Rebuilding from k packets gives the sources that encode to them;
abbrev pub RebuildGivesTheSources : Type 0
RebuildGivesTheSources =
    (k m l : ℕ) (table : List ℕ) (marks : ℕ) (packets before : List ℕ) (count : ℕ) (after : List ℕ)
    → Rebuilt k m l table marks packets before 0 count after
    → EncodesTo (desk k m l table marks) packets after

-- no others do.
abbrev pub RebuildGivesTheOnlySources : Type 0
RebuildGivesTheOnlySources =
    (k m l : ℕ) (table : List ℕ) (marks : ℕ) (packets before : List ℕ) (count : ℕ) (after : List ℕ)
    → Rebuilt k m l table marks packets before 0 count after
    → (y : List ℕ)
    → EncodesTo (desk k m l table marks) packets y
    → y ≡ after

-- One packet, from the same packets, is that of those sources.
abbrev pub PacketIsOfTheRebuiltSources : Type 0
PacketIsOfTheRebuiltSources =
    (k m l : ℕ) (table : List ℕ) (marks : ℕ) (packets before : List ℕ) (wanted : ℕ) (after room : List ℕ) (count : ℕ) (sources : List ℕ)
    → PacketMade k m l table marks packets wanted before 0 after
    → Rebuilt k m l table marks packets room 0 count sources
    → after ≡ packet_of (desk k m l table marks) sources (wanted - 1)

-- the bits of all missing sources
abbrev pub every_bit : ℕ → ℕ → ℕ → ℕ
every_bit k l marks = source_bits l * count k (λ b. not (mark marks b))

-- From the packets of sources, where differences grow, rebuild gives the sources back, after every bit of the missing ones.
abbrev pub SurvivorsGiveTheSources : Type 0
SurvivorsGiveTheSources =
    (k m l : ℕ) (table : List ℕ) (marks : ℕ) (packets before sources : List ℕ)
    → Bytes sources
    → length sources ≡ sources_bytes (desk k m l table marks)
    → packets ≡ survivors_of (desk k m l table marks) sources
    → length before ≡ sources_bytes (desk k m l table marks)
    → Judged k m table 0 1
    → Checked (marked_checks k m l table marks) 0
    → (number count : ℕ) (after : List ℕ)
    → Rebuilt k m l table marks packets before number count after
    → (number ≡ 0) × (after ≡ sources) × (count ≡ every_bit k l marks)

-- And packet gives any packet as those sources encode to it, lost or at hand.
abbrev pub AnyPacketFromAnyK : Type 0
AnyPacketFromAnyK =
    (k m l : ℕ) (table : List ℕ) (marks : ℕ) (packets sources : List ℕ)
    → EncodesTo (desk k m l table marks) packets sources
    → Judged k m table 0 1
    → Checked (marked_checks k m l table marks) 0
    → (i : ℕ)
    → i < k + m
    → (before : List ℕ)
    → length before ≡ packet_bytes (desk k m l table marks) i
    → (number : ℕ) (after : List ℕ)
    → PacketMade k m l table marks packets (i + 1) before number after
    → (number ≡ 0) × (after ≡ packet_of (desk k m l table marks) sources i)

-- packet i, of the sources and of the parities that encode all wrote
abbrev pub written : ℕ → ℕ → ℕ → List ℕ → List ℕ → List ℕ → ℕ → List ℕ
written k m l table sources parities i = pick (ltb i k) (part sources (source_bytes l) i) (parity_in k m l table parities i)

-- those of them that the marks name, one after another
abbrev pub at_hand : ℕ → ℕ → ℕ → List ℕ → List ℕ → List ℕ → ℕ → List ℕ
at_hand k m l table sources parities marks = joined (mark marks) (written k m l table sources parities) (k + m)

-- Encoding, losing any m packets of a table with the judge's yes, and rebuilding gives the sources back, after every bit of the missing ones.
abbrev pub EncodeLoseRebuild : Type 0
EncodeLoseRebuild =
    (k m l : ℕ) (table sources parities room : List ℕ)
    → Bytes sources
    → EncodedAll k m l table sources room 0 parities
    → Judged k m table 0 1
    → (marks : ℕ)
    → Checked (marked_checks k m l table marks) 0
    → (before : List ℕ)
    → length before ≡ sources_bytes (desk k m l table marks)
    → (number count : ℕ) (after : List ℕ)
    → Rebuilt k m l table marks (at_hand k m l table sources parities marks) before number count after
    → (number ≡ 0) × (after ≡ sources) × (count ≡ every_bit k l marks)

-- So any card, lost or at hand, is made as it was written.
abbrev pub EncodeLoseMake : Type 0
EncodeLoseMake =
    (k m l : ℕ) (table sources parities room : List ℕ)
    → Bytes sources
    → EncodedAll k m l table sources room 0 parities
    → Judged k m table 0 1
    → (marks : ℕ)
    → Checked (marked_checks k m l table marks) 0
    → (i : ℕ)
    → i < k + m
    → (before : List ℕ)
    → length before ≡ packet_bytes (desk k m l table marks) i
    → (number : ℕ) (after : List ℕ)
    → PacketMade k m l table marks (at_hand k m l table sources parities marks) (i + 1) before number after
    → (number ≡ 0) × (after ≡ written k m l table sources parities i)

-- D2.3 once the shape is accepted and the walk does not stall, it refuses exactly when no sources do.

-- the checks before 8: 1 2 3 6 7 4 5
abbrev pub shape_and_lengths : ℕ → ℕ → ℕ → List ℕ → ℕ → List ℕ → List ℕ → Checks
shape_and_lengths k m l table marks packets before =
    marked_checks k m l table marks
    ++ input_checks (survivors_bytes (desk k m l table marks)) packets
    ++ output_checks (sources_bytes (desk k m l table marks)) before

abbrev pub RefusesExactly : Type 0
RefusesExactly =
    (k m l : ℕ) (table : List ℕ) (marks : ℕ) (packets before : List ℕ) (number count : ℕ) (after : List ℕ)
    → Rebuilt k m l table marks packets before number count after
    → Checked (shape_and_lengths k m l table marks packets before) 0
    → (number ≡ 8 → ⊥)
    → ((number ≡ 9) ⊎ (number ≡ 10)) ↔ ((x : List ℕ) → EncodesTo (desk k m l table marks) packets x → ⊥)

-- The first of the two numbers is for a one past the last bit that a parity's own row can set.

-- a parity at hand has a one above every place that an entry of its row shifts a source's bit up to
abbrev pub OnePastTheRow : ℕ → ℕ → ℕ → List ℕ → ℕ → List ℕ → Type 0
OnePastTheRow k m l table marks packets =
    (a : ℕ)
    × (a < m)
    × (mark marks (k + a) ≡ true)
    × ((p : ℕ) × ((b : ℕ) → b < k → source_bits l + entry k table a b ≤ p) × (came_parity (desk k m l table marks) packets a p ≡ 1))

abbrev pub NineGoesByTheRow : Type 0
NineGoesByTheRow =
    (k m l : ℕ) (table : List ℕ) (marks : ℕ) (packets before : List ℕ) (number count : ℕ) (after : List ℕ)
    → Rebuilt k m l table marks packets before number count after
    → Checked (shape_and_lengths k m l table marks packets before) 0
    → (number ≡ 8 → ⊥)
    → (number ≡ 9) ↔ OnePastTheRow k m l table marks packets

-- It stalls exactly when no order of steps finishes all missing sources.
abbrev pub StallsExactly : Type 0
StallsExactly =
    (k m l : ℕ) (table : List ℕ) (marks : ℕ) (packets before : List ℕ) (number count : ℕ) (after : List ℕ)
    → Rebuilt k m l table marks packets before number count after
    → Checked (shape_and_lengths k m l table marks packets before) 0
    → (number ≡ 8) ↔ ((n : ℕ) → Finishes (desk k m l table marks) n → ⊥)

-- D2.4 A block is taken exactly when it is a lone I-block under ISO/IEC 7816-3 by our rules and fits.
-- A lone block is an I-block with either N(S), and with or without M.
abbrev pub BlockTakenExactly : Type 0
BlockTakenExactly =
    (block before : List ℕ) (number count sequence more : ℕ) (after : List ℕ)
    → Bytes block
    → BlockTaken block before number count sequence more after
    → (number ≡ 0) ↔ ((sequence' : ℕ) × (more' : ℕ) × (info : List ℕ) × IBlock block sequence' more' info × (length info ≤ length before))

-- Then the destination begins with its information, and goes on as it was; N(S) and M are told.
abbrev pub BlockGivesItsInformation : Type 0
BlockGivesItsInformation =
    (block before : List ℕ) (count sequence more : ℕ) (after : List ℕ) (sequence' more' : ℕ) (info : List ℕ)
    → BlockTaken block before 0 count sequence more after
    → IBlock block sequence' more' info
    → (count ≡ length info) × (sequence ≡ sequence') × (more ≡ more') × (after ≡ info ++ drop (length info) before)

-- So of a run of blocks. What it carries is one list of bytes;
abbrev pub RunOnce : Type 0
RunOnce = (run info info' : List ℕ) → BlockRun 0 run info → BlockRun 0 run info' → info ≡ info'

-- it is taken exactly when it is a run and that fits;
abbrev pub RunTakenExactly : Type 0
RunTakenExactly =
    (run before : List ℕ) (number count : ℕ) (after : List ℕ)
    → BlocksRead run before number count after
    → (number ≡ 0) ↔ ((info : List ℕ) × BlockRun 0 run info × (length info ≤ length before))

-- and then the destination begins with it, and goes on as it was.
abbrev pub RunGivesItsInformation : Type 0
RunGivesItsInformation =
    (run before : List ℕ) (count : ℕ) (after info : List ℕ)
    → BlocksRead run before 0 count after
    → BlockRun 0 run info
    → (count ≡ length info) × (after ≡ info ++ drop (length info) before)

-- A packet that is cut into blocks is a run of that packet, as long as the packet and 4 bytes for each block: one for every size bytes, and one at least.
abbrev pub CutIsARun : Type 0
CutIsARun = (size : ℕ) (packet : List ℕ) → 1 ≤ size → size ≤ max_information → BlockRun 0 (cut_into size packet) packet

abbrev pub CutLength : Type 0
CutLength = (size : ℕ) (packet : List ℕ) → 1 ≤ size → length (cut_into size packet) ≡ length packet + 4 * ((length packet - 1) / size + 1)

-- Reading what was written gives the packet.
abbrev pub ReadWhatWasWritten : Type 0
ReadWhatWasWritten =
    (packet : List ℕ) (size : ℕ) (before : List ℕ) (count : ℕ) (after : List ℕ)
    → BlocksWritten packet size before 0 count after
    → (room : List ℕ)
    → length packet ≤ length room
    → (number read : ℕ) (joined : List ℕ)
    → BlocksRead (take count after) room number read joined
    → (number ≡ 0) × (read ≡ length packet) × (joined ≡ packet ++ drop (length packet) room)

-- ---- Demand 3: Take any accepted shift table and k different packets.

-- D3.1 A step uncovers a bit that stands, in one parity at hand, lower than the next bit of every other unfinished missing source.

-- at progress g, the next bit of source b stands in parity a lower than that of every other unfinished missing source
abbrev pub Lower : Desk → (ℕ → ℕ) → ℕ → ℕ → Type 0
Lower D g a b = (c : ℕ) → b ≢ c → Free D g c → D.shift a b + g b < D.shift a c + g c

-- a parity and a source, from 1, and the progress after the step that they make
pub record StandsLower (D : Desk) (progress : List ℕ) (parity source : ℕ) (after : List ℕ) : Type 0 where
  pub a : ℕ
  pub b : ℕ
  pub parity_is : parity ≡ a + 1
  pub source_is : source ≡ b + 1
  pub at-hand : Held D a
  pub unfinished : Free D (at progress) b
  pub lower : Lower D (at progress) a b
  pub uncovers : after ≡ set progress b (at progress b + 1)

abbrev pub StepStandsLower : Type 0
StepStandsLower =
    (k m l : ℕ) (table : List ℕ) (marks : ℕ) (progress : List ℕ) (parity source : ℕ) (after : List ℕ)
    → Stepped k m l table marks progress 0 parity source after
    → (parity ≡ 0 → ⊥)
    → StandsLower (desk k m l table marks) progress parity source after

-- So does each step of every order, at the progress that the steps before it reach.
abbrev pub EachStepStandsLower : Type 0
EachStepStandsLower =
    (k m l : ℕ) (table : List ℕ) (marks : ℕ) (o o' : Order) (a b : ℕ) (h : ℕ → ℕ)
    → let D = desk k m l table marks in
    Run D (λ c. 0) (o ++ (a, b) ∷ o') h
    → (g : ℕ → ℕ) × Run D (λ c. 0) o g × Held D a × Free D g b × Lower D g a b

-- D3.2 All orders of steps, run until none is left, end at the same place after the same count.
abbrev pub AllOrdersEndAlike : Type 0
AllOrdersEndAlike =
    (k m l : ℕ) (table : List ℕ) (marks : ℕ) (o o' : Order) (h h' : ℕ → ℕ)
    → let D = desk k m l table marks in
    Run D (λ c. 0) o h
    → Stuck D h
    → Run D (λ c. 0) o' h'
    → Stuck D h'
    → (length o ≡ length o') × (h ≡ h')

-- Each has an end: no order is longer than every bit.
abbrev pub EveryOrderEnds : Type 0
EveryOrderEnds =
    (k m l : ℕ) (table : List ℕ) (marks : ℕ) (o : Order) (h : ℕ → ℕ) → Run (desk k m l table marks) (λ c. 0) o h → length o ≤ every_bit k l marks

-- Walk tells that place and that count.
abbrev pub WalkTells : Type 0
WalkTells =
    (k m l : ℕ) (table : List ℕ) (marks count whole : ℕ) (progress : List ℕ)
    → Walked k m l table marks 0 count whole progress
    → (o : Order) (h : ℕ → ℕ)
    → Run (desk k m l table marks) (λ c. 0) o h
    → Stuck (desk k m l table marks) h
    → (length o ≡ count) × (h ≡ at progress)

-- "No order of steps finishes all missing sources" is the same as "walk says it is not whole".
abbrev pub NoneFinishesExactly : Type 0
NoneFinishesExactly =
    (k m l : ℕ) (table : List ℕ) (marks count whole : ℕ) (progress : List ℕ)
    → Walked k m l table marks 0 count whole progress
    → let D = desk k m l table marks in
    (whole ≡ 0) ↔ ((o : Order) (h : ℕ → ℕ) → Run D (λ c. 0) o h → Whole D h → ⊥)

-- D3.3 Where differences grow down the table, that is every bit: eight times the source length in bytes for each missing source.
abbrev pub GrowingOrderIsWhole : Type 0
GrowingOrderIsWhole =
    (k m l : ℕ) (table : List ℕ) (marks count whole : ℕ) (progress : List ℕ)
    → Judged k m table 0 1
    → Walked k m l table marks 0 count whole progress
    → (o : Order) (h : ℕ → ℕ)
    → let D = desk k m l table marks in
    Run D (λ c. 0) o h
    → Stuck D h
    → Whole D h × (length o ≡ every_bit k l marks)

abbrev pub GrowingWalkIsWhole : Type 0
GrowingWalkIsWhole =
    (k m l : ℕ) (table : List ℕ) (marks count whole : ℕ) (progress : List ℕ)
    → Judged k m table 0 1
    → Walked k m l table marks 0 count whole progress
    → (whole ≡ 1) × (count ≡ every_bit k l marks)

-- What the family call writes gets the judge's yes, for all k and m and every family.
abbrev pub FamilyGetsYes : Type 0
FamilyGetsYes =
    (k m family : ℕ) (before table : List ℕ) (number growing : ℕ)
    → FamilyWritten k m family before 0 table
    → Judged k m table number growing
    → (number ≡ 0) × (growing ≡ 1)

-- So with that table every order of steps run to its end finishes every missing source, after all their bits.
abbrev pub FamilyOrderIsWhole : Type 0
FamilyOrderIsWhole =
    (k m family : ℕ) (before table : List ℕ)
    → FamilyWritten k m family before 0 table
    → (l marks : ℕ)
    → Checked (marked_checks k m l table marks) 0
    → (o : Order) (h : ℕ → ℕ)
    → let D = desk k m l table marks in
    Run D (λ c. 0) o h
    → Stuck D h
    → Whole D h × (length o ≡ every_bit k l marks)

-- The largest entry of what it writes for the Hankel family is half of (n/2 − 1)·(n/2), where n is k + m and n/2 is rounded down.
abbrev pub HankelLargestShift : Type 0
HankelLargestShift =
    (k m : ℕ) (before table : List ℕ)
    → FamilyWritten k m 2 before 0 table
    → most m (λ a. most k (entry k table a)) ≡ ((k + m) / 2 - 1) * ((k + m) / 2) / 2

-- D3.4 If the packets were encoded from sources, every order reads those sources' bits.

-- the parities at hand of r and the present sources of s come from the sources x, and s has noughts for the missing ones
abbrev pub ComesFrom : Desk → Bits → Bits → Bits → Type 0
ComesFrom D r s x = ((c p : ℕ) → Gone D c → s c p ≡ 0) × Encodes D r s x

abbrev pub EveryOrderReadsTheSources : Type 0
EveryOrderReadsTheSources =
    (k m l : ℕ) (table : List ℕ) (marks : ℕ) (r s x : Bits) (o : Order) (h : ℕ → ℕ)
    → let D = desk k m l table marks in
    ComesFrom D r s x
    → (u : Run D (λ c. 0) o h) (c p : ℕ)
    → Gone D c
    → p < h c
    → read_by D r u s c p ≡ x c p

-- An order that finishes has then read them whole.
abbrev pub FinishedOrderHasTheSources : Type 0
FinishedOrderHasTheSources =
    (k m l : ℕ) (table : List ℕ) (marks : ℕ) (r s x : Bits) (o : Order) (h : ℕ → ℕ)
    → let D = desk k m l table marks in
    ComesFrom D r s x
    → (u : Run D (λ c. 0) o h)
    → Whole D h
    → (c p : ℕ)
    → c < k
    → read_by D r u s c p ≡ x c p

-- So from any sources' own parities, and those of them that are present, every order reads their bits.
abbrev pub EveryOrderReadsWhatWasEncoded : Type 0
EveryOrderReadsWhatWasEncoded =
    (k m l : ℕ) (table : List ℕ) (marks : ℕ) (x : Bits) (o : Order) (h : ℕ → ℕ)
    → let D = desk k m l table marks in
    Source D x
    → (u : Run D (λ c. 0) o h) (c p : ℕ)
    → Gone D c
    → p < h c
    → read_by D (parity D x) u (present_of D x) c p ≡ x c p

-- And from packets that sources encode to, with the present ones as they came, every order reads these sources' bits;

-- what an order reads from packets: bit p of source c
abbrev pub read_from : (D : Desk) → List ℕ → {o : Order} {h : ℕ → ℕ} → Run D (λ c. 0) o h → Bits
read_from D packets u = read_by D (came_parity D packets) u (present_of D (came_source D packets))

abbrev pub EveryOrderReadsThePackets : Type 0
EveryOrderReadsThePackets =
    (k m l : ℕ) (table : List ℕ) (marks : ℕ) (packets x : List ℕ) (o : Order) (h : ℕ → ℕ)
    → let D = desk k m l table marks in
    EncodesTo D packets x
    → (u : Run D (λ c. 0) o h) (c p : ℕ)
    → Gone D c
    → p < h c
    → read_from D packets u c p ≡ sources_of D x c p

-- one that finishes has read them whole;
abbrev pub FinishedOrderHasThePackets : Type 0
FinishedOrderHasThePackets =
    (k m l : ℕ) (table : List ℕ) (marks : ℕ) (packets x : List ℕ) (o : Order) (h : ℕ → ℕ)
    → let D = desk k m l table marks in
    EncodesTo D packets x
    → (u : Run D (λ c. 0) o h)
    → Whole D h
    → (c p : ℕ)
    → c < k
    → read_from D packets u c p ≡ sources_of D x c p

-- so from what encode all wrote, whatever packets are lost.
abbrev pub EveryOrderReadsWhatEncodeAllWrote : Type 0
EveryOrderReadsWhatEncodeAllWrote =
    (k m l : ℕ) (table sources parities room : List ℕ)
    → Bytes sources
    → EncodedAll k m l table sources room 0 parities
    → (marks : ℕ) (o : Order) (h : ℕ → ℕ)
    → let D = desk k m l table marks in
    (u : Run D (λ c. 0) o h) (c p : ℕ)
    → Gone D c
    → p < h c
    → read_from D (at_hand k m l table sources parities marks) u c p ≡ sources_of D sources c p

-- D3.5 Our rebuild reports this count, done or stalled.
-- It is that of every order of steps, run until none is left.
abbrev pub RebuildCountsEveryOrder : Type 0
RebuildCountsEveryOrder =
    (k m l : ℕ) (table : List ℕ) (marks : ℕ) (packets before : List ℕ) (number count : ℕ) (after : List ℕ)
    → Rebuilt k m l table marks packets before number count after
    → (number ≡ 0) ⊎ (number ≡ 8)
    → (o : Order) (h : ℕ → ℕ)
    → Run (desk k m l table marks) (λ c. 0) o h
    → Stuck (desk k m l table marks) h
    → count ≡ length o
