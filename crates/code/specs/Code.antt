-- The code of the papers: parities are sums of shifted sources, modulo 2.
use Rattle.std.specs.Prelude.{◌≡◌, Bool, true, List, ℕ, ◌+◌, ◌-◌, ◌%◌, ◌≤◌, ◌<◌, leb, ltb}
use Rattle.bits.specs.Sums.{pick, sum}
use Rattle.bits.specs.Bits.{bit_at, up, part, bytes_of, joined}
use Rattle.table.specs.Desk.{Desk, packet_bytes}

-- bits of several packets: which packet, which bit
abbrev pub Bits : Type 0
Bits = ℕ → ℕ → ℕ

module _ (D : Desk) where
  open D use {k, m, bits, bytes, shift, present}

  -- the polynomial sum: over all sources b, source b shifted up by entry (a, b)
  unfoldable pub sum_of : Bits → Bits
  sum_of s a q = sum k (λ b. up (shift a b) (s b) q)

  -- bit q of parity a: the sum modulo 2
  abbrev pub parity : Bits → Bits
  parity s a q = sum_of s a q % 2

  -- bit p of source c, of sources that stand one after another
  unfoldable pub sources_of : List ℕ → Bits
  sources_of x c p = bit_at (part x bytes c) p

  -- no bit of these sources stands past a source's end
  abbrev pub Short : List ℕ → Type 0
  Short x = (c p : ℕ) → c < k → bits ≤ p → sources_of x c p ≡ 0

  -- packet i of the sources x: a source as it is, a parity's bits in as many bytes as it takes
  unfoldable pub packet_of : List ℕ → ℕ → List ℕ
  packet_of x i = pick (ltb i k) (part x bytes i) (bytes_of (packet_bytes D i) (parity (sources_of x) (i - k)))

  -- those packets of the sources x that are on, one after another
  unfoldable pub packets_of : (ℕ → Bool) → List ℕ → List ℕ
  packets_of on x = joined on (packet_of x) (k + m)

  -- all parities, and the packets at hand
  abbrev pub parities_of : List ℕ → List ℕ
  parities_of x = packets_of (leb k) x

  abbrev pub survivors_of : List ℕ → List ℕ
  survivors_of x = packets_of present x

  -- x are bits, and no source has any past its end
  pub record Source (x : Bits) : Type 0 where
    pub bit : (c p : ℕ) → x c p < 2
    pub short : (c p : ℕ) → c < k → bits ≤ p → x c p ≡ 0

  -- the parities at hand of r, and the present sources of s, come from the sources x
  pub record Encodes (r s x : Bits) : Type 0 where
    pub source : Source x
    pub kept : (c p : ℕ) → c < k → present c ≡ true → s c p ≡ x c p
    pub made : (a q : ℕ) → (a < m) × (present (k + a) ≡ true) → r a q ≡ parity x a q
