-- Wrong programs: no answer of that form meets the promise at this input. Assumes nothing.
use mathlib.Core.Path.{◌≡◌, refl}
use mathlib.Core.Logic.{inl, inr}
use mathlib.Core.List.{List, [], ◌∷◌, ◌++◌}
use Prim.Native.Nat.{ℕ}
use native.Mathlib.Omega.{arith}
use lib.ListN.{length, drop}
use Rattle.bits.specs.Bits.{xor_of}
use Rattle.table.proofs.CheckLaws.{checked_once, neither}
use Rattle.card.specs.Block.{IBlock}
use Rattle.chain.specs.Cut.{write_checks}
use Rattle.chain.specs.Promise.{BlocksRead, BlocksWritten}
use Rattle.card.proofs.IBlocks.{made_block}
use Rattle.chain.proofs.RunLaws.{run-refused, out_of_turn, behind_decides}
use Rattle.chain.proofs.CutLaws.{cut_length}
use Rattle.chain.proofs.RunAnswers.{run-refused_answer}
use Rattle.chain.proofs.OneAnswer.{one_read_blocks, one_written_blocks}
use Rattle.chain.proofs.Examples.{twelve, one_two, one_two_three, one_two_block, run-read, packet_written, byte_behind_refused}

-- ---- the reader

-- 11 for the byte behind the last block
pub no_eleven_for_the_byte_behind : {n : ℕ} {after : List ℕ} → BlocksRead (0x00 ∷ 0x00 ∷ 0x00 ∷ 0x00 ∷ 0x00 ∷ []) twelve 11 n after → ⊥
no_eleven_for_the_byte_behind x = omega (arith, (one_read_blocks (0x00 ∷ 0x00 ∷ 0x00 ∷ 0x00 ∷ 0x00 ∷ []) twelve x byte_behind_refused).0)

-- 03 without M, but with N(S) = 0 again
abbrev again : List ℕ
again = 0x00 ∷ 0x00 ∷ 0x01 ∷ 0x03 ∷ 0x02 ∷ []

again_block : IBlock again 0 0 (0x03 ∷ [])
unfolding xor_of
again_block = made_block 0 0 (0x03 ∷ []) (omega arith) (omega arith) (omega arith)

-- the second block is out of turn, whatever the room
again-refused : (before : List ℕ) → BlocksRead (one_two ++ again) before 20 0 before
again-refused before =
    run-refused_answer (behind_decides one_two_block again (omega arith) 20 (run-refused 1 again 5 20 (out_of_turn again_block 1 [] (λ e. omega arith)) (λ z. omega arith))) (λ z. omega arith)
    before

-- a run of equal N(S) taken
pub no_run_of_equal_turns : {n : ℕ} {after : List ℕ} → BlocksRead (one_two ++ again) twelve 0 n after → ⊥
no_run_of_equal_turns x = omega (arith, (one_read_blocks (one_two ++ again) twelve x (again-refused twelve)).0)

-- a reader that stops at the first block
pub no_stop_at_the_first_block : {after : List ℕ} → BlocksRead one_two_three twelve 0 2 after → ⊥
no_stop_at_the_first_block x = omega (arith, (one_read_blocks one_two_three twelve x run-read).1)

-- a reader that refuses all
pub no_reader_refuses_all : {number n : ℕ} {after : List ℕ} → (number ≡ 0 → ⊥) → BlocksRead one_two_three twelve number n after → ⊥
no_reader_refuses_all h x = h (one_read_blocks one_two_three twelve x run-read).0

-- 16 before the run is checked to its end: there is no room for 01 02, but the block behind it is out of turn
pub no_room_before_the_end : {n : ℕ} {after : List ℕ} → BlocksRead (one_two ++ again) [] 16 n after → ⊥
no_room_before_the_end x = omega (arith, (one_read_blocks (one_two ++ again) [] x (again-refused [])).0)

-- 01 02 written, and then the run refused
pub no_output_of_a_refused_run : {number n : ℕ} → BlocksRead (one_two ++ again) twelve number n (0x01 ∷ 0x02 ∷ drop 2 twelve) → ⊥
no_output_of_a_refused_run x =
    let e = (one_read_blocks (one_two ++ again) twelve x (again-refused twelve)).2 in
    let z : ◌≡◌ {A = ℕ} 1 9 = cc in
    omega arith

-- ---- the writer

-- a writer that refuses all
pub no_writer_refuses_all : {number n : ℕ} {after : List ℕ} → (number ≡ 0 → ⊥) → BlocksWritten (0x01 ∷ 0x02 ∷ 0x03 ∷ []) 2 twelve number n after → ⊥
no_writer_refuses_all h x = h (one_written_blocks (0x01 ∷ 0x02 ∷ 0x03 ∷ []) 2 twelve x packet_written).0

-- an empty block behind the last one: 64 bytes at 32 are two blocks, 72 bytes
pub no_empty_last_block : (packet before : List ℕ) {count : ℕ} {after : List ℕ} → length packet ≡ 64 → BlocksWritten packet 32 before 0 count after → count ≡ 72
no_empty_last_block packet before e x = omega (arith, (x.done refl).0, cut_length 32 packet (omega arith))

-- a size of 255 taken, and one of 0
pub no_size_of_255 : (packet before : List ℕ) {number count : ℕ} {after : List ℕ} → BlocksWritten packet 255 before number count after → number ≡ 36
no_size_of_255 packet before {number} x = checked_once (write_checks packet 255 (length before)) number 36 x.numbered (inl (inr (omega arith), refl))

pub no_size_of_nought : (packet before : List ℕ) {number count : ℕ} {after : List ℕ} → BlocksWritten packet 0 before number count after → number ≡ 36
no_size_of_nought packet before {number} x = checked_once (write_checks packet 0 (length before)) number 36 x.numbered (inl (inl (omega arith), refl))

-- a packet of 65 bytes cut, and 16 for one where 4 comes first
pub no_packet_of_65 : (packet before : List ℕ) {number count : ℕ} {after : List ℕ} → length packet ≡ 65 → BlocksWritten packet 32 before number count after → number ≡ 4
no_packet_of_65 packet before {number} e x =
    checked_once (write_checks packet 32 (length before)) number 4 x.numbered (inr (neither (λ l. omega arith) (λ l. omega arith), inl (omega arith, refl)))
