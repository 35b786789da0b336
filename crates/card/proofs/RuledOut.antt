-- Wrong programs: no answer of that form meets the promise at this input. Assumes nothing.
use mathlib.Core.Path.{◌≡◌, refl}
use mathlib.Core.Logic.{inl, inr}
use mathlib.Core.List.{List, [], ◌∷◌}
use Prim.Native.Nat.{ℕ, ◌≤◌}
use native.Mathlib.Omega.{arith}
use lib.ListN.{length}
use Rattle.table.proofs.CheckLaws.{checked_once}
use Rattle.bits.specs.Bits.{xor_of}
use Rattle.card.specs.Block.{len, block_checks, IBlock}
use Rattle.card.specs.Promise.{BlockTaken}
use Rattle.card.proofs.IBlocks.{made_block, iblock_too_long}
use Rattle.card.proofs.OneAnswer.{one_block}
use Rattle.card.proofs.Examples.{four, two_bytes_taken, two_bytes_next_taken, first_of_two_taken}

-- a block call that refuses all
pub no_call_refuses_all : {number count sequence more : ℕ} {after : List ℕ} → (number ≡ 0 → ⊥) → BlockTaken (0x00 ∷ 0x00 ∷ 0x02 ∷ 0xAA ∷ 0x55 ∷ 0xFD ∷ []) four number count sequence more after → ⊥
no_call_refuses_all z x = z (one_block (0x00 ∷ 0x00 ∷ 0x02 ∷ 0xAA ∷ 0x55 ∷ 0xFD ∷ []) four x two_bytes_taken).0

-- a call that trusts LEN: LEN FF in any block of 4 bytes or more is 12
pub reserved_is_refused : (block before : List ℕ) {number count sequence more : ℕ} {after : List ℕ} → 4 ≤ length block → len block ≡ 255
    → BlockTaken block before number count sequence more after → number ≡ 12
reserved_is_refused block before {number} l e x =
    checked_once (block_checks block (length before)) number 12 x.numbered (inr (λ short. omega arith, inl (e, refl)))

-- a call that tells no M: a block with more to follow passes for a whole packet
pub no_block_without_its_m : {count sequence : ℕ} {after : List ℕ} → BlockTaken (0x00 ∷ 0x20 ∷ 0x02 ∷ 0x01 ∷ 0x02 ∷ 0x21 ∷ []) four 0 count sequence 0 after → ⊥
no_block_without_its_m x = omega (arith, (one_block (0x00 ∷ 0x20 ∷ 0x02 ∷ 0x01 ∷ 0x02 ∷ 0x21 ∷ []) four x first_of_two_taken).3)

-- a call that tells M where N(S) is asked for
pub no_sequence_from_m : {count more : ℕ} {after : List ℕ} → BlockTaken (0x00 ∷ 0x40 ∷ 0x02 ∷ 0xAA ∷ 0x55 ∷ 0xBD ∷ []) four 0 count 0 more after → ⊥
no_sequence_from_m x = omega (arith, (one_block (0x00 ∷ 0x40 ∷ 0x02 ∷ 0xAA ∷ 0x55 ∷ 0xBD ∷ []) four x two_bytes_next_taken).2)

-- N(S) and M told of a block that is refused: it does not fit
pub no_bits_of_a_refused_block : {number count sequence more : ℕ} {after : List ℕ} → ((sequence ≡ 0) × (more ≡ 0) → ⊥)
    → BlockTaken (0x00 ∷ 0x60 ∷ 0x01 ∷ 0x03 ∷ 0x62 ∷ []) [] number count sequence more after → ⊥
unfolding xor_of
no_bits_of_a_refused_block told x =
    let b : IBlock (0x00 ∷ 0x60 ∷ 0x01 ∷ 0x03 ∷ 0x62 ∷ []) 1 1 (0x03 ∷ []) = made_block 1 1 (0x03 ∷ []) (omega arith) (omega arith) (omega arith) in
    let e = iblock_too_long b (omega arith) x in
    let r = x.refused (λ z. omega arith) in
    told (r.1, r.2)
