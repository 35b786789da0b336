-- What is known of a stripe at the end: where the steps finish, the only sources that can encode to it. Assumes nothing.
use mathlib.Core.Path.{◌≡◌, refl, sym, ap, ◌∙◌}
use mathlib.Core.Bool.{true}
use mathlib.Core.List.{List}
use Prim.Native.Nat.{ℕ, ◌<◌}
use borrow.Author.Tests.{lt-ltb}
use lib.ListN.{length}
use Rattle.bits.specs.Bits.{bit_at, Bytes}
use Rattle.table.specs.Desk.{Desk, sources_bytes}
use Rattle.table.proofs.Bounds.{Bounded}
use Rattle.code.specs.Code.{Bits, sources_of, Short, Encodes}
use Rattle.walk.specs.Read.{present_of}
use Rattle.walk.proofs.ReadLaws.{present_of_blank, present_of_encodes, only}
use Rattle.survivors.specs.Packets.{came, came_source, came_parity, EncodesTo, stripe}
use Rattle.survivors.proofs.SourceLaws.{sources_ext}
use Rattle.survivors.proofs.CameLaws.{encodes_bits}
use Rattle.lanes.specs.Lanes.{known, LanesRead}

module _ (D : Desk) where
  open D use {k}

  -- belongs to survivors
  came-source : (packets : List ℕ) (c p : ℕ) → c < k → came_source D packets c p ≡ bit_at (came D packets c) p
  unfolding came_source
  came-source packets c p l = rw (lt-ltb c k l)

  module _ (W : Bounded D) (short : (x : List ℕ) → Short D x) (packets : List ℕ) (stripes count : ℕ) (lanes : List ℕ) (L : LanesRead D packets stripes count true lanes)
      (t : ℕ) (lt : t < stripes) where
    -- what is known are the bits of all sources that encode to the stripe
    pub known_encodes : (x : List ℕ) → EncodesTo D (stripe D packets t) x → (c p : ℕ) → c < k → known D packets lanes t c p ≡ sources_of D x c p
    known_encodes x X c p lc =
        ap (λ (s : Bits). s c p) (L.read t lt)
        ∙ only D (came_parity D (stripe D packets t)) (present_of D (came_source D (stripe D packets t))) (present_of_blank D (came_source D (stripe D packets t)))
        L.ended.reached.run (L.full.so refl) (sources_of D x) encodes c p lc
      where
        encodes : Encodes D (came_parity D (stripe D packets t)) (present_of D (came_source D (stripe D packets t))) (sources_of D x)
        encodes = present_of_encodes D (came_parity D (stripe D packets t)) (came_source D (stripe D packets t)) (sources_of D x)
            (encodes_bits D (stripe D packets t) x (short x) (came_source D (stripe D packets t)) (λ c p lc _. came-source (stripe D packets t) c p lc) X)

    -- so sources that have these bits are the only ones
    pub only_known : (sources : List ℕ) → Bytes sources → length sources ≡ sources_bytes D → ((c p : ℕ) → c < k → sources_of D sources c p ≡ known D packets lanes t c p)
        → (x : List ℕ) → EncodesTo D (stripe D packets t) x → x ≡ sources
    only_known sources bytes size same x X =
        sources_ext D x sources W.some X.are_bytes bytes X.size size (λ c p lc. sym (same c p lc ∙ known_encodes x X c p lc))
