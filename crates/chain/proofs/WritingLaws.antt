-- How far the writer has come, and one block put together from its bytes. Assumes nothing.
use mathlib.Core.Path.{◌≡◌, refl, sym, ap, subst, ◌∙◌}
use mathlib.Core.List.{List, ◌++◌, append_assoc}
use Prim.Native.Nat.{ℕ, zero, suc, ◌+◌, ◌-◌, ◌≤◌, ◌<◌}
use native.Mathlib.Omega.{arith}
use lib.Bits.{bit_xor, xor_zero_l}
use lib.ListN.{length, drop, length-append, length-drop}
use lib.Seq.{drop-drop}
use Rattle.bits.specs.Bits.{slice, xor_of}
use Rattle.text.specs.Text.{Front, PutAt}
use Rattle.text.proofs.TextLaws.{front_length}
use Rattle.card.specs.Block.{unchecked, block_of}
use Rattle.card.proofs.IBlocks.{block_length}
use Rattle.chain.specs.Cut.{cut_from, cut_into}
use Rattle.chain.proofs.CutLaws.{cut_last, cut_more}

-- the XOR of all that stands before the LRC, whose first byte is 00
pub lrc_is : (p : ℕ) (info : List ℕ) → bit_xor p (bit_xor (length info) (xor_of info)) ≡ xor_of (unchecked p info)
unfolding xor_of
lrc_is p info = sym (xor_zero_l (bit_xor p (bit_xor (length info) (xor_of info))))

-- so much was cut: what stands before at went into blocks with M, which are done and stand at the front; what is left is to be cut from N(S) = turn on
pub record Cutting (size : ℕ) (packet before : List ℕ) (at end turn : ℕ) (now : List ℕ) : Type 0 where
  pub n : ℕ
  pub done : List ℕ
  pub inside : at ≤ length packet
  pub turn_bit : turn < 2
  pub enough : length packet - at ≤ n
  pub whole : cut_into size packet ≡ done ++ cut_from n turn size (drop at packet)
  pub end_is : end ≡ length done
  pub front : Front before done now

-- the same of what is left
abbrev pub CuttingLeft : ℕ → List ℕ → List ℕ → List ℕ → ℕ → ℕ → List ℕ → Type 0
CuttingLeft size packet before left end turn now = (at : ℕ) × (left ≡ drop at packet) × Cutting size packet before at end turn now

module _ (size : ℕ) (packet before : List ℕ) (room : length (cut_into size packet) ≤ length before) {at end turn : ℕ} {now : List ℕ} (s : Cutting size packet before at end turn now) where
  abbrev left : List ℕ
  left = drop at packet

  -- what is done is a part of all
  done_length : length s.done + length (cut_from s.n turn size left) ≡ length (cut_into size packet)
  done_length = sym (ap length s.whole ∙ length-append s.done (cut_from s.n turn size left))

  pub cutting_length : length now ≡ length before
  cutting_length = front_length before s.done now (omega (arith, done_length)) s.front

  -- size bytes or fewer are left: one block without M, and that is all
  module _ (short : length packet - at ≤ size) where
    last_block : cut_from s.n turn size left ≡ block_of turn 0 left
    last_block = cut_last s.n turn size left (omega (arith, length-drop at packet))

    pub last_fits : end + length left + 4 ≤ length now
    last_fits = omega (arith, done_length, cutting_length, s.end_is, ap length last_block, block_length turn 0 left)

    pub cutting_ends : {after : List ℕ} → PutAt now end (block_of turn 0 left) after → (end + length (block_of turn 0 left) ≡ length (cut_into size packet)) × Front before (cut_into size packet) after
    cutting_ends {after} put =
        let e : s.done ++ block_of turn 0 left ≡ cut_into size packet = ap (λ x. s.done ++ x) (sym last_block) ∙ sym s.whole in
        (omega (arith, s.end_is, ap length last_block, done_length), subst (λ x. Front before x after) e (put before s.done s.end_is s.front))

  -- more are left: a block of size bytes with M
  module _ (long : size < length packet - at) where
    cut_front : (n : ℕ) → s.n ≡ suc n → cut_from s.n turn size left ≡ block_of turn 1 (slice packet at size) ++ cut_from n (1 - turn) size (drop size left)
    cut_front n e = ap (λ x. cut_from x turn size left) e ∙ cut_more n turn size left (omega (arith, length-drop at packet))

    abbrev one_less : (n : ℕ) → length packet - at ≤ n → (less : ℕ) × (n ≡ suc less)
    one_less zero e = absurd (omega arith)
    one_less (suc n) e = (n, refl)

    pub block_fits : end + length (slice packet at size) + 4 ≤ length now
    block_fits =
        let w = one_less s.n s.enough in
        omega (
          arith,
          done_length,
          cutting_length,
          s.end_is,
          ap length (cut_front w.0 w.1),
          length-append (block_of turn 1 (slice packet at size)) (cut_from w.0 (1 - turn) size (drop size left)),
          block_length turn 1 (slice packet at size),
        )

    pub cutting_goes_on : {after : List ℕ} → 1 ≤ size → PutAt now end (block_of turn 1 (slice packet at size)) after
        → Cutting size packet before (at + size) (end + length (block_of turn 1 (slice packet at size))) (1 - turn) after
    cutting_goes_on {after} some put =
        let w = one_less s.n s.enough in
        let block = block_of turn 1 (slice packet at size) in
        let others = cut_from w.0 (1 - turn) size (drop size left) in
        record {
          n = w.0;
          done = s.done ++ block;
          inside = omega arith;
          turn_bit = omega arith;
          enough = omega (arith, w.1, s.enough);
          whole = s.whole ∙ ap (λ x. s.done ++ x) (cut_front w.0 w.1) ∙ sym (append_assoc s.done block others)
              ∙ ap (λ x. (s.done ++ block) ++ cut_from w.0 (1 - turn) size x) (drop-drop size at packet);
          end_is = omega (arith, s.end_is, length-append s.done block);
          front = put before s.done s.end_is s.front;
        }
