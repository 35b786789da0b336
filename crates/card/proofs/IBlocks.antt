-- D2.4: a block is taken exactly when it is an I-block and fits, and then the destination begins with its information, and N(S) and M are told. Assumes nothing.
use mathlib.Core.Path.{◌≡◌, refl, sym, ap, ap₂, subst, ◌∙◌}
use mathlib.Core.Logic.{◌↔◌, inl, inr}
use mathlib.Core.List.{List, [], ◌∷◌, ◌++◌}
use Prim.Native.Nat.{ℕ, zero, suc, ◌+◌, ◌≤◌, ◌<◌}
use native.Mathlib.Omega.{arith}
use lib.Bits.{bit_xor, xor_self, xor_zero_l, xor_zero_r}
use lib.ListN.{length, take, drop, get_or, length-append}
use lib.Seq.{take_all, take-suc, take_at}
use Rattle.bits.specs.Bits.{Bytes, xor_of}
use Rattle.bits.proofs.BitLaws.{xor_assoc}
use Rattle.table.specs.Checks.{Checked}
use Rattle.table.proofs.CheckLaws.{numbered_by, checked_once, goes, neither, Passes, passes_zero}
use Rattle.card.specs.Block.{nad, pcb, len, information, sequence_of, more_of, TakenPcb, form_checks, room_checks, block_checks, max_information, pcb_of, unchecked, block_of, IBlock}
use Rattle.card.specs.Promise.{BlockTaken}
use Rattle.card.proofs.BlockLaws.{Formed, fitting, information-length}

xor_of-snoc : (xs : List ℕ) (y : ℕ) → xor_of (xs ++ y ∷ []) ≡ bit_xor (xor_of xs) y
unfolding xor_of
xor_of-snoc [] y = rw (xor_zero_r y, xor_zero_l y)
xor_of-snoc (x ∷ xs) y = rw (xor_of-snoc xs y) (sym (xor_assoc x (xor_of xs) y))

-- numbers whose XOR is 0 are the same
xor_zero_same : (a b : ℕ) → bit_xor a b ≡ 0 → b ≡ a
xor_zero_same a b e =
    sym (xor_zero_l b) ∙ ap (λ x. bit_xor x b) (sym (xor_self a)) ∙ xor_assoc a a b ∙ ap (bit_xor a) e ∙ xor_zero_r a

-- a list that is one longer than n is its first n and a last
last_of : (xs : List ℕ) (n : ℕ) → length xs ≡ n + 1 → xs ≡ take n xs ++ get_or xs n 0 ∷ []
last_of xs n e = sym (take_all (suc n) xs (omega arith)) ∙ take-suc xs n 0 (omega arith)

-- a block that is LEN + 4 bytes long, byte by byte
parts : (block : List ℕ) → length block ≡ len block + 4 → (lrc : ℕ) × (block ≡ nad block ∷ pcb block ∷ len block ∷ (information block ++ lrc ∷ []))
parts [] e = absurd (omega arith)
parts (a ∷ []) e = absurd (omega arith)
parts (a ∷ b ∷ []) e = absurd (omega arith)
parts (a ∷ b ∷ n ∷ xs) e = (get_or xs n 0, ap (λ l. a ∷ b ∷ n ∷ l) (last_of xs n (omega arith)))

-- the PCBs that are taken are those of an I-block, by N(S) and M
pcb_taken : (sequence more : ℕ) → sequence < 2 → more < 2 → TakenPcb (pcb_of sequence more)
pcb_taken zero zero s m = inl refl
pcb_taken zero (suc zero) s m = inr (inl refl)
pcb_taken (suc zero) zero s m = inr (inr (inl refl))
pcb_taken (suc zero) (suc zero) s m = inr (inr (inr refl))
pcb_taken zero (suc (suc more)) s m = absurd (omega arith)
pcb_taken (suc zero) (suc (suc more)) s m = absurd (omega arith)
pcb_taken (suc (suc sequence)) more s m = absurd (omega arith)

taken_pcb : (block : List ℕ) → TakenPcb (pcb block) → pcb block ≡ pcb_of (sequence_of block) (more_of block)
taken_pcb block (inl e) = omega arith
taken_pcb block (inr (inl e)) = omega arith
taken_pcb block (inr (inr (inl e))) = omega arith
taken_pcb block (inr (inr (inr e))) = omega arith

-- a block as it is made is an I-block, 4 bytes longer than its information
pub made_block : (sequence more : ℕ) (info : List ℕ) → sequence < 2 → more < 2 → length info ≤ max_information → IBlock (block_of sequence more info) sequence more info
made_block sequence more info s m l = record { sequence_bit = s; more_bit = m; short = l; made = refl }

pub block_length : (sequence more : ℕ) (info : List ℕ) → length (block_of sequence more info) ≡ length info + 4
block_length sequence more info = simp length-append (omega arith)

-- what an I-block carries are the information bytes that its LEN tells, and its N(S) and M are those of its PCB
pub record Carried (block : List ℕ) (sequence more : ℕ) (info : List ℕ) : Type 0 where
  pub length_is : length info ≡ len block
  pub info_is : info ≡ information block
  pub sequence_is : sequence ≡ sequence_of block
  pub more_is : more ≡ more_of block

pub carried : {block : List ℕ} {sequence more : ℕ} {info : List ℕ} → IBlock block sequence more info → Carried block sequence more info
carried {block} {sequence} {more} {info} b =
    let p : pcb block ≡ pcb_of sequence more = ap pcb b.made in
    record {
      length_is = ap len (sym b.made);
      info_is = sym (take_at info _ (length info) refl) ∙ ap information (sym b.made);
      sequence_is = omega (arith, b.sequence_bit, b.more_bit);
      more_is = omega (arith, b.sequence_bit, b.more_bit);
    }

pub iblock_formed : {block : List ℕ} {sequence more : ℕ} {info : List ℕ} → IBlock block sequence more info → Formed block
iblock_formed {block} {sequence} {more} {info} b =
    let u = unchecked (pcb_of sequence more) info in
    let e = (carried b).length_is in
    record {
      free = λ z. omega (arith, b.short);
      exact = ap length b.made ∙ block_length sequence more info ∙ ap (λ n. n + 4) e;
      summed = ap xor_of b.made ∙ xor_of-snoc u (xor_of u) ∙ xor_self (xor_of u);
      to_us = ap nad b.made;
      taken = subst TakenPcb (ap pcb (sym b.made)) (pcb_taken sequence more b.sequence_bit b.more_bit);
    }

pub formed_iblock : (block : List ℕ) → Bytes block → Formed block → IBlock block (sequence_of block) (more_of block) (information block)
formed_iblock block bytes f =
    let n = information-length block f.exact in
    let p = parts block f.exact in
    let q = taken_pcb block f.taken in
    let u = unchecked (pcb_of (sequence_of block) (more_of block)) (information block) in
    let rest = information block ++ p.0 ∷ [] in
    let e : block ≡ u ++ p.0 ∷ [] = p.1 ∙ ap₂ (λ a l. a ∷ pcb block ∷ l ∷ rest) f.to_us (sym n) ∙ ap (λ c. 0x00 ∷ c ∷ length (information block) ∷ rest) q in
    record {
      sequence_bit = omega arith;
      more_bit = omega arith;
      short = omega (arith, n, bytes 2, f.free);
      made = e ∙ ap (λ l. u ++ l ∷ []) (xor_zero_same (xor_of u) p.0 (sym (xor_of-snoc u p.0) ∙ ap xor_of (sym e) ∙ f.summed));
    }

-- a block whose form refuses nothing passes its checks
form_passes : (block : List ℕ) → Formed block → Passes (form_checks block)
form_passes block f =
    (λ l. omega (arith, f.exact), (f.free, (λ n. n f.exact, (λ n. n f.summed, (neither (λ n. n f.to_us) (λ n. n f.taken), tt)))))

module _ {block : List ℕ} {sequence more : ℕ} {info : List ℕ} (b : IBlock block sequence more info) where
  -- the checks of an I-block: its form refuses nothing, so the room decides
  iblock_room : (room number : ℕ) → Checked (room_checks (len block) room) number → Checked (block_checks block room) number
  iblock_room room number x =
      goes (form_checks block) (room_checks (len block) room) number (numbered_by (form_checks block) refl) (passes_zero (form_checks block) (form_passes block (iblock_formed b))) x

  -- an I-block that fits has this answer
  pub iblock_answer : (before : List ℕ) → length info ≤ length before → BlockTaken block before 0 (length info) sequence more (info ++ drop (length info) before)
  iblock_answer before l =
      let e = carried b in
      record {
        numbered = iblock_room (length before) 0 (inr (λ short. omega (arith, e.length_is), refl));
        refused = λ n. absurd (n refl);
        done = λ _. (e.length_is, e.sequence_is, e.more_is, ap₂ (λ x n. x ++ drop n before) e.info_is e.length_is);
      }

  -- and one that does not fit is refused for want of room
  pub iblock_too_long : {before : List ℕ} {number count sequence' more' : ℕ} {after : List ℕ} → length before < length info → BlockTaken block before number count sequence' more' after → number ≡ 16
  iblock_too_long {before} {number} l t =
      checked_once (block_checks block (length before)) number 16 t.numbered (iblock_room (length before) 16 (inl (omega (arith, (carried b).length_is), refl)))

module _ (block before : List ℕ) where
  -- an I-block whose information fits
  abbrev Fitting : Type 0
  Fitting = (sequence : ℕ) × (more : ℕ) × (info : List ℕ) × IBlock block sequence more info × (length info ≤ length before)

  -- D2.4 A block is taken exactly when it is a lone I-block under ISO/IEC 7816-3 by our rules and fits.
  pub taken_exactly : {number count sequence more : ℕ} {after : List ℕ} → Bytes block → BlockTaken block before number count sequence more after → (number ≡ 0) ↔ Fitting
  taken_exactly {number} bytes t = (there, back)
    where
      there : number ≡ 0 → Fitting
      there z =
          let f = fitting block (length before) t.numbered z in
          (sequence_of block, more_of block, information block, formed_iblock block bytes f.0, omega (arith, f.1, information-length block f.0.exact))

      back : Fitting → number ≡ 0
      back i = checked_once (block_checks block (length before)) number 0 t.numbered (iblock_answer i.3 before i.4).numbered

  -- and then the destination begins with that information, and goes on as it was, and N(S) and M are told.
  pub taken_begins : {count sequence more : ℕ} {after : List ℕ} → BlockTaken block before 0 count sequence more after → {sequence' more' : ℕ} {info : List ℕ} → IBlock block sequence' more' info
      → (count ≡ length info) × (sequence ≡ sequence') × (more ≡ more') × (after ≡ info ++ drop (length info) before)
  taken_begins t {info = info} b =
      let d = t.done refl in
      let e = carried b in
      (d.0 ∙ sym e.length_is, d.1 ∙ sym e.sequence_is, d.2 ∙ sym e.more_is, d.3 ∙ ap₂ (λ l n. l ++ drop n before) (sym e.info_is) (sym e.length_is))
