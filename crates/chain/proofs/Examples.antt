-- The runs among the examples of the rules (docs/RULES.md): each given answer meets the promise. Checked by computing. Assumes nothing.
use mathlib.Core.Path.{refl}
use mathlib.Core.Logic.{inl, inr}
use mathlib.Core.List.{List, [], ◌∷◌, ◌++◌}
use Prim.Native.Nat.{ℕ}
use native.Mathlib.Omega.{arith}
use lib.ListN.{drop}
use Rattle.bits.specs.Bits.{xor_of}
use Rattle.card.specs.Block.{IBlock}
use Rattle.chain.specs.Run.{BlockRun, last, chained}
use Rattle.chain.specs.Cut.{cut_from}
use Rattle.chain.specs.Promise.{BlocksRead, BlocksWritten}
use Rattle.card.proofs.IBlocks.{made_block}
use Rattle.chain.proofs.RunLaws.{behind_decides}
use Rattle.chain.proofs.RunAnswers.{run_answer, run-refused_answer, out_of_turn_answer, wrong_end_answer, cut_answer}

-- a destination of twelve bytes
abbrev pub twelve : List ℕ
twelve = 9 ∷ 9 ∷ 9 ∷ 9 ∷ 9 ∷ 9 ∷ 9 ∷ 9 ∷ 9 ∷ 9 ∷ 9 ∷ 9 ∷ []

-- 01 02 with M, and 03 without; AA with M, and 55 without
abbrev pub one_two : List ℕ
one_two = 0x00 ∷ 0x20 ∷ 0x02 ∷ 0x01 ∷ 0x02 ∷ 0x21 ∷ []

abbrev pub three : List ℕ
three = 0x00 ∷ 0x40 ∷ 0x01 ∷ 0x03 ∷ 0x42 ∷ []

abbrev pub one_two_three : List ℕ
one_two_three = one_two ++ three

abbrev pub cut_by_one : List ℕ
cut_by_one = 0x00 ∷ 0x20 ∷ 0x01 ∷ 0xAA ∷ 0x8B ∷ 0x00 ∷ 0x40 ∷ 0x01 ∷ 0x55 ∷ 0x14 ∷ []

pub one_two_block : IBlock one_two 0 1 (0x01 ∷ 0x02 ∷ [])
unfolding xor_of
one_two_block = made_block 0 1 (0x01 ∷ 0x02 ∷ []) (omega arith) (omega arith) (omega arith)

three_block : IBlock three 1 0 (0x03 ∷ [])
unfolding xor_of
three_block = made_block 1 0 (0x03 ∷ []) (omega arith) (omega arith) (omega arith)

one_two_three_run : BlockRun 0 one_two_three (0x01 ∷ 0x02 ∷ 0x03 ∷ [])
one_two_three_run = chained one_two_block (last three_block)

-- * 00 20 02 01 02 21 00 40 01 03 42: bytes 01 02 03.
pub run-read : BlocksRead one_two_three twelve 0 3 (0x01 ∷ 0x02 ∷ 0x03 ∷ drop 3 twelve)
run-read = run_answer one_two_three_run twelve (omega arith)

-- * The packet 01 02 03 at size 2 writes these.
pub packet_written : BlocksWritten (0x01 ∷ 0x02 ∷ 0x03 ∷ []) 2 twelve 0 11 (one_two_three ++ drop 11 twelve)
unfolding cut_from xor_of
packet_written = cut_answer (0x01 ∷ 0x02 ∷ 0x03 ∷ []) 2 twelve (omega arith) (omega arith) (omega arith) (omega arith)

-- * AA 55 at size 1: 00 20 01 AA 8B 00 40 01 55 14.
pub byte_by_byte_written : BlocksWritten (0xAA ∷ 0x55 ∷ []) 1 twelve 0 10 (cut_by_one ++ drop 10 twelve)
unfolding cut_from xor_of
byte_by_byte_written = cut_answer (0xAA ∷ 0x55 ∷ []) 1 twelve (omega arith) (omega arith) (omega arith) (omega arith)

-- * An empty packet, of whatever size, is one empty block.
pub empty_written : BlocksWritten [] 32 twelve 0 4 (0x00 ∷ 0x00 ∷ 0x00 ∷ 0x00 ∷ drop 4 twelve)
unfolding cut_from xor_of
empty_written = cut_answer [] 32 twelve (omega arith) (omega arith) (omega arith) (omega arith)

-- * Block 00 20 02 01 02 21 as a run: 21.
pub first_alone_refused : BlocksRead one_two twelve 21 0 twelve
first_alone_refused = wrong_end_answer one_two_block [] (inl (refl, refl)) twelve

-- * 00 40 01 03 42 as a run: 20.
pub second_first_refused : BlocksRead three twelve 20 0 twelve
second_first_refused = out_of_turn_answer three_block [] (λ e. omega arith) twelve

empty_block : IBlock (0x00 ∷ 0x00 ∷ 0x00 ∷ 0x00 ∷ []) 0 0 []
unfolding xor_of
empty_block = made_block 0 0 [] (omega arith) (omega arith) (omega arith)

-- * 00 00 00 00 00 as a run: 21.
pub byte_behind_refused : BlocksRead (0x00 ∷ 0x00 ∷ 0x00 ∷ 0x00 ∷ 0x00 ∷ []) twelve 21 0 twelve
byte_behind_refused = wrong_end_answer empty_block (0x00 ∷ []) (inr (refl, omega arith)) twelve

-- * An empty run: 11.
pub empty_refused : BlocksRead [] twelve 11 0 twelve
empty_refused = run-refused_answer {run = []} (inl (omega arith, refl)) (λ z. omega arith) twelve

-- * 00 20 02 01 02 21 and one byte more: 11, of the next block.
pub byte_after_more_refused : BlocksRead (one_two ++ 0x00 ∷ []) twelve 11 0 twelve
byte_after_more_refused = run-refused_answer (behind_decides one_two_block (0x00 ∷ []) (omega arith) 11 (inl (omega arith, refl))) (λ z. omega arith) twelve
