-- The packets that came, and the checks of them.
use Rattle.std.specs.Prelude.{◌≡◌, true, cond, List, [], ◌∷◌, ℕ, ◌+◌, ◌≤◌, ◌<◌, ltb, length}
use Rattle.bits.specs.Bits.{bit_at, Bytes, slice, part}
use Rattle.table.specs.Desk.{Desk, sources_bytes, packet_bits, packet_bytes, place_of, survivors_bytes}
use Rattle.table.specs.Checks.{Checks}
use Rattle.code.specs.Code.{Bits, survivors_of}

module _ (D : Desk) (packets : List ℕ) where
  open D use {k, m, present}

  -- packet i as it came
  abbrev pub came : ℕ → List ℕ
  came i = slice packets (place_of D present i) (packet_bytes D i)

  -- bit p of source c as it came, 0 past the sources; bit q of parity a
  unfoldable pub came_source : Bits
  came_source c p = cond (ltb c k) (bit_at (came c) p) 0

  unfoldable pub came_parity : Bits
  came_parity a q = bit_at (came (k + a)) q

  -- a packet at hand has a one above its last bit
  abbrev pub Stray : Type 0
  Stray = (i : ℕ) × (i < k + m) × (present i ≡ true) × ((p : ℕ) × (packet_bits D i ≤ p) × (bit_at (came i) p ≡ 1))

  -- the sources x encode to these packets
  pub record EncodesTo (x : List ℕ) : Type 0 where
    pub size : length x ≡ sources_bytes D
    pub are_bytes : Bytes x
    pub same : packets ≡ survivors_of D x

  -- 9: a packet at hand has a one above its last bit; 10: no sources encode to these packets
  abbrev pub packets_checks : Checks
  packets_checks = (9, Stray) ∷ (10, (x : List ℕ) → EncodesTo x → ⊥) ∷ []

-- stripe t, from 0, of a logbook: the packets at hand of one stripe after those of the other
abbrev pub stripe : Desk → List ℕ → ℕ → List ℕ
stripe D packets t = part packets (survivors_bytes D) t
