-- The blocks among the examples of the rules (docs/RULES.md): each given answer meets the promise. Checked by computing. Assumes nothing.
use mathlib.Core.List.{List, [], ◌∷◌}
use Prim.Native.Nat.{ℕ}
use native.Mathlib.Omega.{arith}
use Rattle.bits.specs.Bits.{xor_of}
use Rattle.card.specs.Block.{IBlock}
use Rattle.card.specs.Promise.{BlockTaken}
use Rattle.card.proofs.IBlocks.{made_block, iblock_answer}

-- a destination of four bytes
abbrev pub four : List ℕ
four = 1 ∷ 2 ∷ 3 ∷ 4 ∷ []

two_bytes : IBlock (0x00 ∷ 0x00 ∷ 0x02 ∷ 0xAA ∷ 0x55 ∷ 0xFD ∷ []) 0 0 (0xAA ∷ 0x55 ∷ [])
unfolding xor_of
two_bytes = made_block 0 0 (0xAA ∷ 0x55 ∷ []) (omega arith) (omega arith) (omega arith)

two_bytes_next : IBlock (0x00 ∷ 0x40 ∷ 0x02 ∷ 0xAA ∷ 0x55 ∷ 0xBD ∷ []) 1 0 (0xAA ∷ 0x55 ∷ [])
unfolding xor_of
two_bytes_next = made_block 1 0 (0xAA ∷ 0x55 ∷ []) (omega arith) (omega arith) (omega arith)

no_bytes : IBlock (0x00 ∷ 0x00 ∷ 0x00 ∷ 0x00 ∷ []) 0 0 []
unfolding xor_of
no_bytes = made_block 0 0 [] (omega arith) (omega arith) (omega arith)

first_of_two : IBlock (0x00 ∷ 0x20 ∷ 0x02 ∷ 0x01 ∷ 0x02 ∷ 0x21 ∷ []) 0 1 (0x01 ∷ 0x02 ∷ [])
unfolding xor_of
first_of_two = made_block 0 1 (0x01 ∷ 0x02 ∷ []) (omega arith) (omega arith) (omega arith)

-- * Block 00 00 02 AA 55 FD: bytes AA 55.
pub two_bytes_taken : BlockTaken (0x00 ∷ 0x00 ∷ 0x02 ∷ 0xAA ∷ 0x55 ∷ 0xFD ∷ []) four 0 2 0 0 (0xAA ∷ 0x55 ∷ 3 ∷ 4 ∷ [])
two_bytes_taken = iblock_answer two_bytes four (omega arith)

-- Block 00 40 02 AA 55 BD: the same bytes, and N(S) is 1.
pub two_bytes_next_taken : BlockTaken (0x00 ∷ 0x40 ∷ 0x02 ∷ 0xAA ∷ 0x55 ∷ 0xBD ∷ []) four 0 2 1 0 (0xAA ∷ 0x55 ∷ 3 ∷ 4 ∷ [])
two_bytes_next_taken = iblock_answer two_bytes_next four (omega arith)

-- Block 00 00 00 00: no bytes.
pub no_bytes_taken : BlockTaken (0x00 ∷ 0x00 ∷ 0x00 ∷ 0x00 ∷ []) four 0 0 0 0 four
no_bytes_taken = iblock_answer no_bytes four (omega arith)

-- Block 00 20 02 01 02 21: bytes 01 02, N(S) 0, and M is set.
pub first_of_two_taken : BlockTaken (0x00 ∷ 0x20 ∷ 0x02 ∷ 0x01 ∷ 0x02 ∷ 0x21 ∷ []) four 0 2 0 1 (0x01 ∷ 0x02 ∷ 3 ∷ 4 ∷ [])
first_of_two_taken = iblock_answer first_of_two four (omega arith)
