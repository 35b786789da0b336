-- What is known of a source: a present one as it came, of a missing one what stands in its lane, and nothing past its bytes. Assumes nothing.
use mathlib.Core.Path.{◌≡◌, refl, sym, ap, ◌∙◌, fun_ext}
use mathlib.Core.Logic.{◌≢◌}
use mathlib.Core.Bool.{Bool, true, false, cond}
use mathlib.Core.List.{List}
use Prim.Native.Nat.{ℕ, ◌+◌, ◌*◌, ◌≤◌, ◌<◌}
use native.Mathlib.Omega.{arith}
use native.Mathlib.Decide.{ℕ_discrete, dec_lt}
use borrow.Author.Tests.{lt-ltb, le-ltb}
use lib.Dec.{ltb}
use lib.ListN.{length, set}
use lib.Seq.{get_or-set_same, get_or-set_other}
use Rattle.bits.specs.Sums.{at}
use Rattle.bits.specs.Bits.{bit, bit_at}
use Rattle.bits.proofs.BitLaws.{bit_zero}
use Rattle.bits.proofs.SliceLaws.{slice_past}
use Rattle.table.specs.Limits.{max_bits}
use Rattle.table.specs.Desk.{Desk, packet_bytes, place_of}
use Rattle.table.proofs.Bounds.{Bounded}
use Rattle.table.proofs.PacketLaws.{source_packet_bytes}
use Rattle.walk.specs.Walk.{Gone}
use Rattle.walk.specs.Read.{put, present_of}
use Rattle.walk.proofs.ReadLaws.{put_same, put-bit, put-source}
use Rattle.survivors.specs.Packets.{came, came_source, stripe}
use Rattle.lanes.specs.Lanes.{lane_words, lane_bit, known}

-- two tests in either order
cond_swap : (u v : Bool) (x : ℕ) → cond u (cond v x 0) 0 ≡ cond v (cond u x 0) 0
cond_swap true true x = refl
cond_swap true false x = refl
cond_swap false true x = refl
cond_swap false false x = refl

module _ (D : Desk) where
  open D use {k, bytes, present}

  -- ---- a bit of a lane

  module _ (lanes : List ℕ) (t c p : ℕ) where
    -- within a source's bytes it stands in its word, past them it is 0
    lane-bit : p < 8 * bytes → lane_bit D lanes t c p ≡ bit (at lanes (c * max_bits + p)) t
    unfolding lane_bit
    lane-bit l = rw (lt-ltb p (8 * bytes) l)

    lane_past : 8 * bytes ≤ p → lane_bit D lanes t c p ≡ 0
    unfolding lane_bit
    lane_past l = rw (le-ltb p (8 * bytes) l)

    lane_of_noughts : ((i : ℕ) → at lanes i ≡ 0) → lane_bit D lanes t c p ≡ 0
    lane_of_noughts z = elim (dec_lt p (8 * bytes)) [
      | yes l ↦ lane-bit l ∙ ap (λ x. bit x t) (z (c * max_bits + p)) ∙ bit_zero t
      | no l ↦ lane_past (omega arith)
    ]

  -- its word is one of the words
  pub word_in : Bounded D → (c p : ℕ) → c < k → p < 8 * bytes → c * max_bits + p < lane_words
  word_in W c p lc lp = omega (arith, W.k_high, W.bytes_high)

  -- a word that is set is that of one bit, and no other bit changes
  lane_set_other : Bounded D → (lanes : List ℕ) (t b g word c p : ℕ) → g < 8 * bytes → (b ≡ c → g ≢ p)
      → lane_bit D (set lanes (b * max_bits + g) word) t c p ≡ lane_bit D lanes t c p
  lane_set_other W lanes t b g word c p lg ne = elim (dec_lt p (8 * bytes)) [
    | yes l ↦
        lane-bit (set lanes (b * max_bits + g) word) t c p l
        ∙ ap (λ x. bit x t) (get_or-set_other lanes (b * max_bits + g) (c * max_bits + p) word 0 (apart l)) ∙ sym (lane-bit lanes t c p l)
    | no l ↦ lane_past (set lanes (b * max_bits + g) word) t c p (omega arith) ∙ sym (lane_past lanes t c p (omega arith))
  ]
    where
      apart : p < 8 * bytes → c * max_bits + p ≢ b * max_bits + g
      apart l e = elim (ℕ_discrete b c) [
        | yes f ↦ ne f (omega (arith, W.bytes_high))
        | no f ↦ f (omega (arith, W.bytes_high))
      ]

  -- ---- what is known

  module _ (packets lanes : List ℕ) (t c p : ℕ) where
    pub known-present : c < k → present c ≡ true → known D packets lanes t c p ≡ bit_at (came D (stripe D packets t) c) p
    unfolding known
    known-present lc e = rw (lt-ltb c k lc, e)

    known-missing : Gone D c → known D packets lanes t c p ≡ lane_bit D lanes t c p
    unfolding known
    known-missing gone = rw (lt-ltb c k gone.0, gone.1)

    pub known_in_lane : Gone D c → p < 8 * bytes → known D packets lanes t c p ≡ bit (at lanes (c * max_bits + p)) t
    known_in_lane gone l = known-missing gone ∙ lane-bit lanes t c p l

    -- nothing past a source's bytes
    pub known_past : c < k → 8 * bytes ≤ p → known D packets lanes t c p ≡ 0
    known_past lc l = go (present c) refl
      where
        go : (v : Bool) → present c ≡ v → known D packets lanes t c p ≡ 0
        go true e = known-present lc e ∙ slice_past (stripe D packets t) (place_of D present c) (packet_bytes D c) p (omega (arith, source_packet_bytes D c lc))
        go false e = known-missing (lc, e) ∙ lane_past lanes t c p l

  module _ (packets : List ℕ) where
    -- lanes with the same bit tell the same of it
    known_same : (lanes lanes' : List ℕ) (t c p : ℕ) → lane_bit D lanes t c p ≡ lane_bit D lanes' t c p → known D packets lanes t c p ≡ known D packets lanes' t c p
    unfolding known
    known_same lanes lanes' t c p e = ap (λ v. cond (ltb c k) (cond (present c) (bit_at (came D (stripe D packets t) c) p) v) 0) e

    -- lanes of noughts tell nothing of the missing sources
    pub known_of_noughts : (lanes : List ℕ) → ((i : ℕ) → at lanes i ≡ 0) → (t : ℕ) → known D packets lanes t ≡ present_of D (came_source D (stripe D packets t))
    unfolding known present_of came_source
    known_of_noughts lanes z t = fun_ext λ c. fun_ext λ p.
        ap (λ v. cond (ltb c k) (cond (present c) (bit_at (came D (stripe D packets t) c) p) v) 0) (lane_of_noughts lanes t c p z)
        ∙ cond_swap (ltb c k) (present c) (bit_at (came D (stripe D packets t) c) p)

    -- a word that is set tells one bit more of a missing source, in every stripe
    pub known-set : Bounded D → (lanes : List ℕ) → length lanes ≡ lane_words → (b g word : ℕ) → Gone D b → g < 8 * bytes
        → (t : ℕ) → known D packets (set lanes (b * max_bits + g) word) t ≡ put (known D packets lanes t) b g (bit word t)
    known-set W lanes size b g word gone lg t = fun_ext λ c. fun_ext λ p. elim (ℕ_discrete b c) [
      | no ne ↦ other c p (λ e. absurd (ne e)) ∙ sym (put-source (known D packets lanes t) b g (bit word t) c p ne)
      | yes e ↦ elim (ℕ_discrete g p) [
        | no nf ↦ other c p (λ _. nf) ∙ sym (put-bit (known D packets lanes t) b g (bit word t) c p nf)
        | yes f ↦ rw (← e, ← f) (here ∙ sym (put_same (known D packets lanes t) b g (bit word t) b g refl refl))
      ]
    ]
      where
        other : (c p : ℕ) → (b ≡ c → g ≢ p) → known D packets (set lanes (b * max_bits + g) word) t c p ≡ known D packets lanes t c p
        other c p ne = known_same (set lanes (b * max_bits + g) word) lanes t c p (lane_set_other W lanes t b g word c p lg ne)

        here : known D packets (set lanes (b * max_bits + g) word) t b g ≡ bit word t
        here =
            known_in_lane packets (set lanes (b * max_bits + g) word) t b g gone lg
            ∙ ap (λ x. bit x t) (get_or-set_same lanes (b * max_bits + g) word 0 (omega (arith, size, word_in W b g gone.0 lg)))
