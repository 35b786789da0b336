-- A bit of a source as it stands in a parity, and of what is left of the parity, in every stripe. Assumes nothing.
use mathlib.Core.Path.{◌≡◌, sym, ap, ◌∙◌}
use mathlib.Core.Bool.{true}
use mathlib.Core.List.{List}
use Prim.Native.Nat.{ℕ, ◌+◌, ◌*◌, ◌%◌, ◌≤◌, ◌<◌}
use native.Mathlib.Omega.{arith}
use native.Mathlib.Numerals.{add-one}
use lib.Bits.{bit_xor}
use Rattle.bits.specs.Sums.{at, sum}
use Rattle.bits.specs.Bits.{bit, bit_at, up}
use Rattle.bits.proofs.BitLaws.{bit_zero, bit-xor, bit_at_lt}
use Rattle.bits.proofs.SumLaws.{mod_more}
use Rattle.bits.proofs.UpLaws.{up_at, up_low, up_high}
use Rattle.table.specs.Limits.{max_bits}
use Rattle.table.specs.Desk.{Desk}
use Rattle.code.specs.Code.{sum_of}
use Rattle.walk.specs.Walk.{Gone}
use Rattle.survivors.specs.Packets.{came, came_parity, stripe}
use Rattle.lanes.specs.Lanes.{Gathers, known}
use Rattle.lanes.proofs.KnownLaws.{known-present, known_in_lane, known_past}

-- ---- bit q of source c as it stands in parity a

module _ (D : Desk) (packets lanes : List ℕ) (stripes a c q : ℕ) where
  open D use {k, bytes, shift, present}

  -- a word has it
  abbrev pub WordOf : ℕ → Type 0
  WordOf word = Gathers stripes (λ t. up (shift a c) (known D packets lanes t c) q) word

  -- below the source and past it stand noughts
  pub word_low : q < shift a c → WordOf 0
  word_low l t _ = bit_zero t ∙ sym (up_low (shift a c) (known D packets lanes t c) q l)

  pub word_past : c < k → shift a c + 8 * bytes ≤ q → WordOf 0
  word_past lc l t _ = bit_zero t ∙ sym (up_high (shift a c) (known D packets lanes t c) (8 * bytes) q (λ p lp. known_past D packets lanes t c p lc lp) l)

  module _ (p : ℕ) (e : q ≡ shift a c + p) where
    shifted_bit : (t : ℕ) → up (shift a c) (known D packets lanes t c) q ≡ known D packets lanes t c p
    shifted_bit t = ap (up (shift a c) (known D packets lanes t c)) e ∙ up_at (shift a c) (known D packets lanes t c) p

    -- of a present source it is the bit that came
    pub word_present : c < k → present c ≡ true → (word : ℕ) → Gathers stripes (λ t. bit_at (came D (stripe D packets t) c) p) word → WordOf word
    word_present lc h word G t l = G t l ∙ sym (shifted_bit t ∙ known-present D packets lanes t c p lc h)

    -- of a missing one it stands in its lane
    pub word_missing : Gone D c → p < 8 * bytes → WordOf (at lanes (c * max_bits + p))
    word_missing gone lp t _ = sym (shifted_bit t ∙ known_in_lane D packets lanes t c p gone lp)

-- ---- bit q of what is left of parity a

module _ (D : Desk) (packets lanes : List ℕ) (stripes a q : ℕ) where
  open D use {k, shift}

  -- a word has it, when what is known of the sources below c was taken out
  abbrev pub LeftBelow : ℕ → ℕ → Type 0
  LeftBelow c word =
      Gathers stripes (λ t. (came_parity D (stripe D packets t) a q + sum c (λ b. up (shift a b) (known D packets lanes t b) q)) % 2) word

  pub left_none : (word : ℕ) → Gathers stripes (λ t. bit_at (came D (stripe D packets t) (k + a)) q) word → LeftBelow 0 word
  unfolding came_parity sum
  left_none word G t l = G t l ∙ omega (arith, bit_at_lt (came D (stripe D packets t) (k + a)) q)

  pub left_more : (c word w : ℕ) → LeftBelow c word → WordOf D packets lanes stripes a c q w → LeftBelow (c + 1) (bit_xor word w)
  unfolding sum
  left_more c word w L W t l =
      bit-xor word w t
      ∙ ap (λ v. (bit word t + v) % 2) (W t l)
      ∙ mod_more (bit word t) (came_parity D (stripe D packets t) a q) _ _ (L t l)
      ∙ rw (add-one c)

  pub left-all : (c word : ℕ) → c ≡ k → LeftBelow c word → Gathers stripes (λ t. (came_parity D (stripe D packets t) a q + sum_of D (known D packets lanes t) a q) % 2) word
  unfolding sum_of
  left-all c word e L t l = L t l ∙ ap (λ x. (came_parity D (stripe D packets t) a q + sum x (λ b. up (shift a b) (known D packets lanes t b) q)) % 2) e
