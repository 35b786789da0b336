-- Two answers that meet a call's promise at the same input are equal: tables and encoding. The other calls' stand in their crates' OneAnswer. Assumes nothing.
use mathlib.Core.Path.{◌≡◌}
use mathlib.Core.List.{List}
use Prim.Native.Nat.{ℕ}
use Rattle.table.specs.Checks.{shape_checks, marked_checks}
use Rattle.table.proofs.CheckLaws.{flag_once}
use Rattle.table.proofs.AnswerLaws.{answers_agree, same}
use Rattle.family.specs.Promise.{FamilyWritten, family_checks, Judged, judge_checks}
use Rattle.family.proofs.FamilyTables.{family_once}
use Rattle.encode.specs.Promise.{EncodedAll, encode_checks, EncodedOne, encode_one_checks, PacketMeasured, packet_length_checks, ParitiesMeasured, SurvivorsMeasured}

-- two answers of the family call
pub one_family : (k m family : ℕ) (before : List ℕ) {n n' : ℕ} {after after' : List ℕ}
    → FamilyWritten k m family before n after
    → FamilyWritten k m family before n' after'
    → (n ≡ n') × (after ≡ after')
one_family k m family before {n} {n'} {after} {after'} x y = answers_agree (family_checks k m family before) n n' {P = after ≡ after'} same (family_once family k m after after') x y

-- two answers of the judge
pub one_judge : (k m : ℕ) (table : List ℕ) {n n' g g' : ℕ} → Judged k m table n g → Judged k m table n' g' → (n ≡ n') × (g ≡ g')
one_judge k m table {n} {n'} {g} {g'} x y = answers_agree (judge_checks k m table) n n' {P = g ≡ g'} same flag_once x y

-- two answers of encode all
pub one_encode_all : (k m l : ℕ) (table sources before : List ℕ) {n n' : ℕ} {after after' : List ℕ}
    → EncodedAll k m l table sources before n after
    → EncodedAll k m l table sources before n' after'
    → (n ≡ n') × (after ≡ after')
one_encode_all k m l table sources before {n} {n'} {after} {after'} x y = answers_agree (encode_checks k m l table sources before) n n' {P = after ≡ after'} same same x y

-- two answers of encode one, while it was a call
pub one_encode_one : (k m l : ℕ) (table : List ℕ) (packet : ℕ) (sources before : List ℕ) {n n' : ℕ} {after after' : List ℕ}
    → EncodedOne k m l table packet sources before n after
    → EncodedOne k m l table packet sources before n' after'
    → (n ≡ n') × (after ≡ after')
one_encode_one k m l table packet sources before {n} {n'} {after} {after'} x y = answers_agree (encode_one_checks k m l table packet sources before) n n' {P = after ≡ after'} same same x y

-- two answers of packet length, of parities' length and of survivors' length
pub one_packet_length : (k m l : ℕ) (table : List ℕ) (packet : ℕ) {n n' v v' : ℕ} → PacketMeasured k m l table packet n v → PacketMeasured k m l table packet n' v' → (n ≡ n') × (v ≡ v')
one_packet_length k m l table packet {n} {n'} {v} {v'} x y = answers_agree (packet_length_checks k m l table packet) n n' {P = v ≡ v'} same same x y

pub one_parities_length : (k m l : ℕ) (table : List ℕ) {n n' v v' : ℕ} → ParitiesMeasured k m l table n v → ParitiesMeasured k m l table n' v' → (n ≡ n') × (v ≡ v')
one_parities_length k m l table {n} {n'} {v} {v'} x y = answers_agree (shape_checks k m l table) n n' {P = v ≡ v'} same same x y

pub one_survivors_length : (k m l : ℕ) (table : List ℕ) (marks : ℕ) {n n' v v' : ℕ} → SurvivorsMeasured k m l table marks n v → SurvivorsMeasured k m l table marks n' v' → (n ≡ n') × (v ≡ v')
one_survivors_length k m l table marks {n} {n'} {v} {v'} x y = answers_agree (marked_checks k m l table marks) n n' {P = v ≡ v'} same same x y
