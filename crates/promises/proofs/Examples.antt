-- The examples of specs/Examples: every answer meets its call's promise. Checked by computing. Assumes nothing.
use mathlib.Core.Path.{◌≡◌, refl, subst}
use mathlib.Core.Bool.{true}
use mathlib.Core.List.{List, [], ◌∷◌, ◌++◌}
use Prim.Native.Nat.{ℕ, ◌+◌, ◌-◌, ◌*◌}
use native.Mathlib.Omega.{arith}
use lib.ListN.{length}
use Rattle.bits.specs.Sums.{one_at, sum, all_b, lowest}
use Rattle.bits.specs.Bits.{bit, bit_at, up, from_bits, bytes_of, joined}
use Rattle.table.specs.Desk.{desk, sources_bytes, parities_bytes, survivors_bytes, entry, most, reach, packet_bits, packet_bytes, place_of}
use Rattle.table.specs.Limits.{max_family}
use Rattle.table.specs.Family.{triangle, bowl, hankel_shift, family_shift}
use Rattle.table.specs.Checks.{input_checks, output_checks, size_checks, family_number_checks, number_checks, table_checks, shape_checks}
use Rattle.table.proofs.CheckLaws.{numbered_by, goes, exactly_long}
use Rattle.table.proofs.Taken.{low_b, inside_b, size_b, table_b, shape_b, taken_b, size_taken, family_taken, number_taken, table_taken, shape_taken, taken_checked}
use Rattle.family.proofs.Tested.{family_b, step_b, grows_b, flag_of, family_table, grows_flag}
use Rattle.code.specs.Code.{sum_of, sources_of, packet_of, packets_of, parities_of}
use Rattle.walk.specs.Read.{put, read_along}
use Rattle.walk.specs.Promise.{Walked}
use Rattle.walk.specs.Compute.{placed_of, lower_of, scan, source_of, parity_of, full_b, whole_b, walk_from}
use Rattle.walk.proofs.Answers.{Answer, answer_of, answer_meets}
use Rattle.steps.specs.Promise.{StepsChecked}
use Rattle.steps.proofs.Answers.{bare_b, follow_from, checked_of, checked_meets}
use Rattle.survivors.specs.Packets.{came_parity}
use Rattle.card.proofs.Examples.{two_bytes_taken, two_bytes_next_taken, no_bytes_taken, first_of_two_taken}
use Rattle.chain.proofs.Examples.{run-read, packet_written, byte_by_byte_written, empty_written}
use Rattle.chain.proofs.Examples.{first_alone_refused, second_first_refused, byte_behind_refused, empty_refused, byte_after_more_refused}
use Rattle.promises.specs.Examples.{Example, family, largest, judge, packet_length, parities-length, encode, walk, check_steps, rebuild, rebuild_log, make, block, read, write}
use Rattle.promises.specs.Examples.{house, Met, Name, example, examples, AllMet, ExamplesMet}
use Rattle.promises.proofs.LogAnswers.{LogLent, LogOutcome, reads_all, stops_at, log_outcome_meets}
use Rattle.promises.proofs.PacketAnswers.{PacketOutcome, none_such, refuses, makes, packet_outcome_meets}
use Rattle.promises.proofs.RebuildAnswers.{bytes_b, tidy_b, Outcome, stalls, strays, differs, reads, outcome_meets}

-- what is computed of an example; of blocks nothing here
abbrev Computed : Example → Type 0
Computed (family k m which before table) = (size_b k m ≡ true) × (inside_b max_family which ≡ true) × (length before ≡ m * k) × (family_b which k m table ≡ true)
Computed (largest k m table r) = most m (λ c. most k (entry k table c)) ≡ r
Computed (judge k m table growing) = (size_b k m ≡ true) × (table_b k m table ≡ true) × (growing ≡ flag_of (grows_b k m table))
Computed (packet_length k m l table packet bytes) =
    (shape_b k m l table ≡ true) × (inside_b (k + m) packet ≡ true) × (bytes ≡ packet_bytes (desk k m l table 0) (packet - 1))
Computed (parities-length k m l table bytes) = (shape_b k m l table ≡ true) × (bytes ≡ parities_bytes (desk k m l table 0))
Computed (encode k m l table sources before parities) =
    let D = desk k m l table 0 in
    (shape_b k m l table ≡ true)
    × (length sources ≡ sources_bytes D)
    × (length before ≡ parities_bytes D)
    × (parities ≡ parities_of D sources)
Computed (walk k m l table marks count whole progress) =
    (taken_b k m l table marks ≡ true) × (answer_of (desk k m l table marks) ≡ record { count = count; whole = whole; progress = progress })
Computed (check_steps k m l table marks parities sources number place) =
    (taken_b k m l table marks ≡ true) × (checked_of (desk k m l table marks) parities sources ≡ (number, place))
Computed (rebuild k m l table marks packets before number count after) =
    let D = desk k m l table marks in
    (taken_b k m l table marks ≡ true)
    × (length packets ≡ survivors_bytes D)
    × (length before ≡ sources_bytes D)
    × Outcome D packets before number count after
Computed (rebuild_log k m l table stripes marks packets before number good count after) =
    LogLent k m l table stripes marks packets before × LogOutcome k m l table stripes marks packets before number good count after
Computed (make k m l table marks packets wanted before number after) = PacketOutcome k m l table marks packets wanted before number after
Computed (block bytes before count sequence more after) = Met (block bytes before count sequence more after)
Computed (read run before number count after) = Met (read run before number count after)
Computed (write packet size before count after) = Met (write packet size before count after)

-- and that it is enough
met : (e : Example) → Computed e → Met e
unfolding reach
met (family k m which before table) c =
    let room = exactly_long 5 (m * k) before c.2 in
    let rest = goes (family_number_checks which) (output_checks (m * k) before) 0 (numbered_by (family_number_checks which) refl) (family_taken which c.1) room in
    record {
      numbered = goes (size_checks k m) (family_number_checks which ++ output_checks (m * k) before) 0 (numbered_by (size_checks k m) refl) (size_taken k m c.0) rest;
      refused = λ n. absurd (n refl);
      done = λ _. family_table which k m table c.3;
    }
met (largest k m table r) c = c
met (judge k m table growing) c = record {
  numbered = goes (size_checks k m) (table_checks k m table) 0 (numbered_by (size_checks k m) refl) (size_taken k m c.0) (table_taken k m table c.1);
  refused = λ n. absurd (n refl);
  done = λ _. grows_flag k m table (grows_b k m table) growing refl c.2;
}
met (packet_length k m l table packet bytes) c = record {
  numbered = goes (shape_checks k m l table) (number_checks (k + m) packet) 0 (numbered_by (shape_checks k m l table) refl) (shape_taken k m l table c.0) (number_taken (k + m) packet c.1);
  refused = λ n. absurd (n refl);
  done = λ _. c.2;
}
met (parities-length k m l table bytes) c = record {
  numbered = shape_taken k m l table c.0;
  refused = λ n. absurd (n refl);
  done = λ _. c.1;
}
met (encode k m l table sources before parities) c =
    let D = desk k m l table 0 in
    let room = parities_bytes D in
    let input = input_checks (sources_bytes D) sources in
    let output = output_checks room before in
    let lengths = goes input output 0 (numbered_by input refl) (exactly_long 4 (sources_bytes D) sources c.1) (exactly_long 5 room before c.2) in
    record {
      numbered = goes (shape_checks k m l table) (input ++ output) 0 (numbered_by (shape_checks k m l table) refl) (shape_taken k m l table c.0) lengths;
      refused = λ n. absurd (n refl);
      done = λ _. c.3;
    }
met (walk k m l table marks count whole progress) c =
    let accepted = taken_checked k m l table marks c.0 in
    subst (λ (a : Answer). Walked k m l table marks 0 a.count a.whole a.progress) c.1 (answer_meets k m l table marks accepted)
met (check_steps k m l table marks parities sources number place) c =
    let accepted = taken_checked k m l table marks c.0 in
    subst (λ (r : ℕ × ℕ). StepsChecked k m l table marks parities sources r.0 r.1) c.1 (checked_meets k m l table marks parities sources accepted)
met (rebuild k m l table marks packets before number count after) c =
    outcome_meets k m l table marks packets before (record { taken = c.0; input = c.1; output = c.2 }) c.3
met (rebuild_log k m l table stripes marks packets before number good count after) c = log_outcome_meets k m l table stripes marks packets before c.0 c.1
met (make k m l table marks packets wanted before number after) c = packet_outcome_meets k m l table marks packets wanted before c
met (block bytes before count sequence more after) c = c
met (read run before number count after) c = c
met (write packet size before count after) c = c

-- what examples compute with: whether a call is accepted, the walk, the packets, what was read from them
accepting : Unit {0}
unfolding taken_b shape_b size_b table_b inside_b low_b family_b family_shift hankel_shift bowl triangle grows_b step_b flag_of entry most
accepting = tt

walking : Unit {0}
unfolding answer_of walk_from parity_of source_of lowest placed_of lower_of scan all_b one_at sum full_b whole_b
walking = tt

following : Unit {0}
unfolding checked_of follow_from bare_b
following = tt

coding : Unit {0}
unfolding reach packet_bits packet_bytes place_of sum_of sources_of packet_of packets_of bit bit_at up from_bits bytes_of joined
coding = tt

reading : Unit {0}
unfolding bytes_b tidy_b read_along put came_parity
reading = tt

-- what is computed of rebuild where packet follows it: with the sources themselves, from both parities, and where no sources encode to these
abbrev rebuilt_sources : Example
rebuilt_sources = rebuild 2 2 1 house 3 (0x80 ∷ 0xC0 ∷ []) (9 ∷ 9 ∷ []) 0 0 (0x80 ∷ 0xC0 ∷ [])

from_sources : Computed rebuilt_sources
unfolding accepting walking coding reading
from_sources = (refl, refl, refl, reads refl refl refl refl)

from_high_bits : Computed (example Name.rebuild-high-bits)
unfolding accepting walking coding reading
from_high_bits = (refl, refl, refl, reads refl refl refl refl)

from_no_sources : Computed (example Name.rebuild-no-sources)
unfolding accepting walking coding reading
from_no_sources = (refl, refl, refl, differs refl refl 1 8 (omega arith) refl refl)

from_both_parities : Computed (example Name.rebuild-both-parities)
unfolding accepting walking coding reading
from_both_parities = (refl, refl, refl, reads refl refl refl refl)

from_seven : Computed (example Name.rebuild-seven)
unfolding accepting walking coding reading
from_seven = (refl, refl, refl, stalls refl)

-- what rebuild gives of the stripes of a log
good_stripe : Met (example Name.rebuild-both-parities)
good_stripe = met (example Name.rebuild-both-parities) from_both_parities

foreign-stripe : Met (example Name.rebuild-no-sources)
foreign-stripe = met (example Name.rebuild-no-sources) from_no_sources

stalled_stripe : Met (example Name.rebuild-seven)
stalled_stripe = met (example Name.rebuild-seven) from_seven

computed : (n : Name) → Computed (example n)
unfolding accepting walking following coding reading
computed Name.family_house = (refl, refl, refl, refl)
computed Name.family-hankel-tall = (refl, refl, refl, refl)
computed Name.family-hankel-wide = (refl, refl, refl, refl)
computed Name.family-hankel-eight = (refl, refl, refl, refl)
computed Name.family_vandermonde = (refl, refl, refl, refl)
computed Name.largest-house = refl
computed Name.largest-hankel = refl
computed Name.length-low-row = (refl, refl, refl)
computed Name.length-high-row = (refl, refl, refl)
computed Name.lengths-uneven = (refl, refl)
computed Name.encode-ones = (refl, refl, refl, refl)
computed Name.encode-high-bits = (refl, refl, refl, refl)
computed Name.encode-uneven-ones = (refl, refl, refl, refl)
computed Name.encode-uneven-high-bits = (refl, refl, refl, refl)
computed Name.judge-house = (refl, refl, refl)
computed Name.judge-seven = (refl, refl, refl)
computed Name.judge-eight = (refl, refl, refl)
computed Name.walk-both-parities = (refl, refl)
computed Name.walk-one-parity = (refl, refl)
computed Name.walk-no-parity = (refl, refl)
computed Name.walk-seven = (refl, refl)
computed Name.walk-eight = (refl, refl)
computed Name.walk-stuck = (refl, refl)
computed Name.steps-own-order = (refl, refl)
computed Name.steps-another-order = (refl, refl)
computed Name.steps-tie = (refl, refl)
computed Name.steps-right-length = (refl, refl)
computed Name.steps-one-short = (refl, refl)
computed Name.steps-one-more = (refl, refl)
computed Name.steps-seven = (refl, refl)
computed Name.steps-none-missing = (refl, refl)
computed Name.steps-none-written = (refl, refl)
computed Name.steps-nought = (refl, refl)
computed Name.steps-unequal = (refl, refl)
computed Name.rebuild-both-parities = from_both_parities
computed Name.rebuild-one-parity = (refl, refl, refl, reads refl refl refl refl)
computed Name.rebuild-no-parity = (refl, refl, refl, reads refl refl refl refl)
computed Name.rebuild-high-bits = from_high_bits
computed Name.rebuild-one-above = (refl, refl, refl, strays refl (3, omega arith, refl, (10, omega arith, refl)))
computed Name.rebuild-past-the-row = (refl, refl, refl, strays refl (2, omega arith, refl, (9, omega arith, refl)))
computed Name.rebuild-no-sources = from_no_sources
computed Name.rebuild-seven = from_seven
computed Name.rebuild-eight = (refl, refl, refl, reads refl refl refl refl)
computed Name.rebuild-stuck = (refl, refl, refl, stalls refl)
computed Name.log-bad-stripe = (record { taken = refl; few = refl; input = refl; output = refl }, stops_at 10 1 16 (omega arith) (omega arith) (tt, good_stripe) foreign-stripe (refl, refl))
computed Name.log-three-alike = (record { taken = refl; few = refl; input = refl; output = refl }, reads_all (((tt, good_stripe), good_stripe), good_stripe) (refl, refl))
computed Name.log-seven = (record { taken = refl; few = refl; input = refl; output = refl }, stops_at 8 0 0 (omega arith) (omega arith) tt stalled_stripe (refl, refl))
computed Name.packet-parity-of-sources = makes (met rebuilt_sources from_sources) (omega arith) (omega arith) refl refl
computed Name.packet-source-of-sources = makes (met rebuilt_sources from_sources) (omega arith) (omega arith) refl refl
computed Name.packet-lost = makes (met (example Name.rebuild-high-bits) from_high_bits) (omega arith) (omega arith) refl refl
computed Name.packet-at-hand = makes (met (example Name.rebuild-high-bits) from_high_bits) (omega arith) (omega arith) refl refl
computed Name.packet-no-sources = refuses (met (example Name.rebuild-no-sources) from_no_sources) (omega arith) (omega arith) (omega arith) refl
computed Name.packet-none-such = none_such refl (omega arith)
computed Name.block-two-bytes = two_bytes_taken
computed Name.block-two-bytes-next = two_bytes_next_taken
computed Name.block-no-bytes = no_bytes_taken
computed Name.block-first-of-two = first_of_two_taken
computed Name.run-of-two = run-read
computed Name.run-first-alone = first_alone_refused
computed Name.run-second-first = second_first_refused
computed Name.run-byte-behind = byte_behind_refused
computed Name.run-empty = empty_refused
computed Name.run-byte-after-more = byte_after_more_refused
computed Name.cut-by-two = packet_written
computed Name.cut_by_one = byte_by_byte_written
computed Name.cut-empty = empty_written

-- an example's answer meets its call's promise
pub example_met : (n : Name) → Met (example n)
example_met n = met (example n) (computed n)

all_met : (ns : List Name) → AllMet ns
all_met [] = tt
all_met (n ∷ ns) = (example_met n, all_met ns)

-- and so does every answer of the list
pub examples_met : ExamplesMet
examples_met = all_met examples
