-- Stripes as the lanes of words: a word for each bit of each source that there can be, with stripe t in bit t.
use Rattle.std.specs.Prelude.{◌≡◌, Bool, true, cond, List, ℕ, ◌+◌, ◌*◌, ◌<◌, ltb, length}
use Rattle.bits.specs.Sums.{at}
use Rattle.bits.specs.Bits.{bit, bit_at, Tells}
use Rattle.table.specs.Limits.{max_k, max_bits}
use Rattle.table.specs.Desk.{Desk, place_of, survivors_bytes}
use Rattle.code.specs.Code.{Bits}
use Rattle.walk.specs.Walk.{Whole}
use Rattle.walk.specs.Ends.{Ended}
use Rattle.walk.specs.Read.{present_of, read_by}
use Rattle.survivors.specs.Packets.{came, came_source, came_parity, stripe}

-- word c · max_bits + p is for bit p of source c
abbrev pub lane_words : ℕ
lane_words = max_k * max_bits

-- a word has what f says of each stripe in its bit
abbrev pub Gathers : ℕ → (ℕ → ℕ) → ℕ → Type 0
Gathers stripes f word = (t : ℕ) → t < stripes → bit word t ≡ f t

module _ (D : Desk) where
  open D use {k, m, bytes, present}

  -- bit p of source c in lane t; 0 past a source's bytes
  unfoldable pub lane_bit : List ℕ → ℕ → Bits
  lane_bit lanes t c p = cond (ltb p (8 * bytes)) (bit (at lanes (c * max_bits + p)) t) 0

  -- where each packet at hand stands in its stripe
  abbrev pub Places : List ℕ → Type 0
  Places places = (i : ℕ) → i < k + m → present i ≡ true → at places i ≡ place_of D present i

  -- so many stripes, one after another
  abbrev pub Stripes : ℕ → List ℕ → Type 0
  Stripes stripes packets = length packets ≡ stripes * survivors_bytes D

  module _ (packets : List ℕ) where
    -- the sources of stripe t as far as they are known: a present one as it came, of a missing one what stands in its lane
    unfoldable pub known : List ℕ → ℕ → Bits
    known lanes t c p = cond (ltb c k) (cond (present c) (bit_at (came D (stripe D packets t) c) p) (lane_bit lanes t c p)) 0

    -- one run of steps until none is left; what is known of each stripe is what this run reads there
    pub record LanesRead (stripes count : ℕ) (whole : Bool) (lanes : List ℕ) : Type 0 where
      pub ended : Ended D count
      pub full : Tells whole (Whole D ended.end)
      pub read : (t : ℕ) → t < stripes
          → known lanes t ≡ read_by D (came_parity D (stripe D packets t)) ended.reached.run (present_of D (came_source D (stripe D packets t)))
