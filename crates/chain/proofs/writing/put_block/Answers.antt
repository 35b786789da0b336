-- The bytes of a block, one behind another, and the XOR of all before is that of the PCB, LEN and the information. Assumes nothing.
use mathlib.Core.Path.{◌≡◌, ap, subst, ◌∙◌}
use mathlib.Core.List.{[], ◌∷◌, ◌++◌}
use Prim.Native.Nat.{ℕ}
use native.Mathlib.Omega.{arith}
use lib.Bits.{bit_xor}
use lib.ListN.{length}
use Rattle.text.specs.Text.{PutAt}
use Rattle.text.proofs.TextLaws.{put_both}
use Rattle.card.specs.Block.{pcb_of}
use Rattle.card.proofs.IBlocks.{block_length}
use Rattle.chain.proofs.WritingLaws.{lrc_is}
use Rattle.chain.proofs.writing.put_block.Goals as goal

pub returns : goal.returns
returns c =
    let s = c.args in
    let info = s.info.now in
    let p = pcb_of s.sequence s.more in
    let lrc = bit_xor p (bit_xor (length info) c.xor_all.result) in
    let summed : lrc ≡ _ = ap (λ (x : ℕ). bit_xor p (bit_xor (length info) x)) c.xor_all.ensures ∙ lrc_is p info in
    let d = c.put_byte in
    let i = c.put-end in
    let n = c.put_byte-end-3 in
    let o = c.put_byte-end-2 in
    let a = c.put_byte-end in
    let from-information = put_both _ _ _ _ _ info (lrc ∷ []) i.ensures.0 i.ensures.1 d.ensures.1 in
    let from-count = put_both _ _ _ _ _ (length info ∷ []) (info ++ lrc ∷ []) n.ensures.0 n.ensures.1 from-information in
    let from-control = put_both _ _ _ _ _ (p ∷ []) (length info ∷ (info ++ lrc ∷ [])) o.ensures.0 o.ensures.1 from-count in
    let from-address = put_both _ _ _ _ _ (0 ∷ []) (p ∷ length info ∷ (info ++ lrc ∷ [])) a.ensures.0 a.ensures.1 from-control in (
      omega (arith, a.ensures.0, o.ensures.0, n.ensures.0, i.ensures.0, d.ensures.0, block_length s.sequence s.more info),
      subst (λ (x : ℕ). PutAt s.dest.now s.at (0 ∷ p ∷ length info ∷ (info ++ x ∷ [])) d.new.out) summed from-address,
    )
