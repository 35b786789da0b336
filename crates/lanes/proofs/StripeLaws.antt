-- Laws of stripes: a bit of one, and the sources of one stored one after another. Assumes nothing.
use mathlib.Core.Path.{◌≡◌, sym, ap, ap₂, ◌∙◌, subst}
use mathlib.Core.Bool.{true}
use mathlib.Core.List.{List}
use Prim.Native.Nat.{ℕ, ◌+◌, ◌-◌, ◌*◌, ◌≤◌, ◌<◌}
use native.Mathlib.Omega.{arith}
use native.Mathlib.Nat.{mul-le-mul_right}
use native.Mathlib.Decide.{ℕ_discrete, dec_lt}
use lib.ListN.{length}
use Rattle.bits.specs.Sums.{at}
use Rattle.bits.specs.Bits.{bit, bit_at, part, slice}
use Rattle.bits.proofs.SliceLaws.{slice-bit, slice-length, part_in}
use Rattle.table.specs.Limits.{max_bits}
use Rattle.table.specs.Desk.{Desk, packet_bytes, place_of, survivors_bytes}
use Rattle.table.proofs.PacketLaws.{source_packet_bytes, place_ends}
use Rattle.rows.specs.Rows.{Stored}
use Rattle.code.specs.Code.{sources_of}
use Rattle.code.proofs.CodeLaws.{source-bit, source_past}
use Rattle.walk.specs.Walk.{Gone}
use Rattle.survivors.specs.Packets.{came, stripe}
use Rattle.lanes.specs.Lanes.{Stripes, known}
use Rattle.lanes.proofs.KnownLaws.{known-present, known_in_lane, known_past}
use Rattle.lanes.proofs.PutLaws.{stored_same}

-- belongs to bits
-- a bit of part t, read in all that stands from part t on
pub part-bit_ahead : (xs : List ℕ) (n t q : ℕ) → q < 8 * n → t * n + n ≤ length xs → bit_at (slice xs (t * n) (length xs - t * n)) q ≡ bit_at (part xs n t) q
part-bit_ahead xs n t q l h = slice-bit xs (t * n) (length xs - t * n) q (omega arith) ∙ sym (slice-bit xs (t * n) n q l)

module _ (D : Desk) (packets lanes : List ℕ) (t : ℕ) where
  open D use {k, m, bytes, present}

  -- a bit of a present source, in its place of the stripe
  came-bit : (c p : ℕ) → c < k → present c ≡ true → p < 8 * bytes → bit_at (came D (stripe D packets t) c) p ≡ bit_at packets (8 * (t * survivors_bytes D + place_of D present c) + p)
  came-bit c p lc e lp =
      let place = place_of D present c in
      let n = survivors_bytes D in
      let size = source_packet_bytes D c lc in
      let ends = place_ends D present c (k + m) (omega arith) e in
      let there : 8 * (t * n) + (8 * place + p) ≡ 8 * (t * n + place) + p = omega arith in
      slice-bit (stripe D packets t) place (packet_bytes D c) p (omega (arith, size))
      ∙ slice-bit packets (t * n) n (8 * place + p) (omega (arith, size, ends))
      ∙ ap (bit_at packets) there

  -- a present source ends within the packets
  pub present_ends : (stripes n place size c : ℕ) → t < stripes → Stripes D stripes packets → n ≡ survivors_bytes D
      → c < k → present c ≡ true → place ≡ place_of D present c → size ≡ bytes → t * n + place + size ≤ length packets
  present_ends stripes n place size c lt long en lc e ep es =
      let ends = place_ends D present c (k + m) (omega arith) e in
      let all : stripes * n ≡ length packets = ap (λ x. stripes * x) en ∙ sym long in
      let within = part_in t stripes n (length packets) lt (omega (arith, all)) in
      let wide = source_packet_bytes D c lc in
      omega (arith, within, ends, wide, ep, en, es)

  -- ---- the first n sources of stripe t stand in their places

  abbrev pub StandBelow : ℕ → List ℕ → Type 0
  StandBelow n out = (c q : ℕ) → c < n → q < 8 * bytes → bit_at out (8 * (c * bytes) + q) ≡ known D packets lanes t c q

  pub stand_none : (out : List ℕ) → StandBelow 0 out
  stand_none out c q l _ = absurd (omega arith)

  stand_more : (n : ℕ) (out out' : List ℕ) → Stored (n * bytes) bytes (known D packets lanes t n) out out' → StandBelow n out → StandBelow (n + 1) out'
  stand_more n out out' S h c q l lq = elim (ℕ_discrete n c) [
    | yes e ↦ rw (← e) (S.here q lq)
    | no ne ↦ let before : c < n = omega arith in S.below (8 * (c * bytes) + q) (omega (arith, mul-le-mul_right bytes before)) ∙ h c q before lq
  ]

  -- one source more: a present one, as code takes it from the packets
  pub stand_present : (n place size c : ℕ) (out out' : List ℕ) → n ≡ survivors_bytes D → c < k → present c ≡ true → place ≡ place_of D present c → size ≡ bytes
      → t * n + place + size ≤ length packets
      → (let src = slice packets (t * n + place) (t * n + place + size - (t * n + place)) in Stored (c * size) (length src) (bit_at src) out out')
      → StandBelow c out → StandBelow (c + 1) out'
  stand_present n place size c out out' en lc e ep es within S =
      let from = t * n + place in
      let src = slice packets from (from + size - from) in
      let taken : from + size - from ≡ size = omega arith in
      let long : length src ≡ bytes = slice-length packets from (from + size - from) (omega (arith, taken)) ∙ taken ∙ es in
      let sized : Stored (c * bytes) bytes (bit_at src) out out' = subst (λ w. Stored (c * w) bytes (bit_at src) out out') es (subst (λ w. Stored (c * size) w (bit_at src) out out') long S) in
      stand_more c out out' (stored_same (c * bytes) bytes _ _ out out' sized (λ p lp.
      slice-bit packets from (from + size - from) p (omega (arith, taken, es))
      ∙ ap₂ (λ x y. bit_at packets (8 * (t * x + y) + p)) en ep
      ∙ sym (known-present D packets lanes t c p lc e ∙ came-bit c p lc e lp)))

  -- or a missing one, out of its lane
  pub stand_missing : (size c : ℕ) (out out' : List ℕ) → Gone D c → size ≡ bytes
      → Stored (c * size) size (λ p. bit (at lanes (c * max_bits + p)) t) out out' → StandBelow c out → StandBelow (c + 1) out'
  stand_missing size c out out' gone es S =
      let sized = subst (λ w. Stored (c * w) w (λ p. bit (at lanes (c * max_bits + p)) t) out out') es S in
      stand_more c out out' (stored_same (c * bytes) bytes _ _ out out' sized (λ p lp. sym (known_in_lane D packets lanes t c p gone lp)))

  -- where all of them stand, what is in out is what is known
  pub all_stand : (out : List ℕ) → StandBelow k out → (c p : ℕ) → c < k → sources_of D out c p ≡ known D packets lanes t c p
  all_stand out h c p lc = elim (dec_lt p (8 * bytes)) [
    | yes l ↦ source-bit D out c p l ∙ h c p lc l
    | no l ↦ source_past D out c p (omega arith) ∙ sym (known_past D packets lanes t c p lc (omega arith))
  ]
