-- A one above the last bit of a packet at hand, looked for from one packet to the next. Assumes nothing.
use mathlib.Core.Path.{◌≡◌, refl, sym, ap, ◌∙◌}
use mathlib.Core.Bool.{Bool, true, false, true≢false, ◌||◌}
use mathlib.Core.List.{List}
use Prim.Native.Nat.{ℕ, ◌+◌, ◌*◌, ◌≤◌, ◌<◌}
use native.Mathlib.Omega.{arith}
use native.Mathlib.Decide.{ℕ_discrete, dec_lt}
use lib.Dec.{ltb, eqb}
use lib.ListN.{length}
use borrow.Author.Tests.{lt-ltb, le-ltb, eq-eqb, ne_eqb}
use Rattle.bits.specs.Sums.{all_b}
use Rattle.bits.specs.Bits.{bit_at, ClearFrom, slice}
use Rattle.bits.proofs.SumLaws.{all_some, all-at}
use Rattle.bits.proofs.BitLaws.{bit_at_lt, bit_at_past}
use Rattle.table.specs.Desk.{Desk, mark, packet_bits, packet_bytes}
use Rattle.table.specs.Table.{NextMark}
use Rattle.table.specs.Desks.{desk_of}
use Rattle.table.specs.declared.desks.Desk as laid
use Rattle.survivors.specs.Packets.{came, Stray}
use Rattle.survivors.proofs.AtHand.{AtPacket}

-- belongs to bits
-- a list that is not clear from n on has a one there
pub one_above : (xs : List ℕ) (n : ℕ) → (ClearFrom xs n → ⊥) → (p : ℕ) × (n ≤ p) × (bit_at xs p ≡ 1)
one_above xs n not-clear = go (all_b (8 * length xs) clear) refl
  where
    clear : ℕ → Bool
    clear p = ltb p n || eqb (bit_at xs p) 0

    is_clear : (p : ℕ) → clear p ≡ true → n ≤ p → bit_at xs p ≡ 0
    is_clear p e l = elim (ℕ_discrete (bit_at xs p) 0) [ yes z ↦ z | no nz ↦ absurd (true≢false (sym e ∙ rw (le-ltb p n l, ne_eqb (bit_at xs p) 0 nz))) ]

    not_clear_at : (p : ℕ) → clear p ≡ false → (n ≤ p) × (bit_at xs p ≡ 1)
    not_clear_at p e = elim (dec_lt p n) [
      | yes l ↦ absurd (true≢false (sym (rw (lt-ltb p n l)) ∙ e))
      | no l ↦ elim (ℕ_discrete (bit_at xs p) 0) [
        | yes z ↦ absurd (true≢false (sym (rw (le-ltb p n (omega arith), eq-eqb (bit_at xs p) 0 z)) ∙ e))
        | no nz ↦ (omega arith, omega (arith, bit_at_lt xs p))
      ]
    ]

    go : (v : Bool) → all_b (8 * length xs) clear ≡ v → (p : ℕ) × (n ≤ p) × (bit_at xs p ≡ 1)
    go false e = let r = all_some (8 * length xs) clear e in let w = not_clear_at r.0 r.2 in (r.0, w.0, w.1)
    go true e = absurd (not-clear (λ p l. elim (dec_lt p (8 * length xs)) [
      | yes q ↦ is_clear p (all-at (8 * length xs) clear e p q) l
      | no q ↦ bit_at_past xs p (omega arith)
    ]))

module _ (d : laid.Desk) (packets : List ℕ) where
  abbrev D : Desk
  D = desk_of d

  abbrev n : ℕ
  n = d.k + d.m

  -- no packet at hand below packet i has a one above its last bit
  abbrev pub ClearBelow : ℕ → Type 0
  ClearBelow i = (j : ℕ) → j < i → mark d.marks j ≡ true → ClearFrom (came D packets j) (packet_bits D j)

  -- none is passed on the way to packet r
  pub clear_below_first : (r : ℕ) → NextMark true d.marks 0 n r → ClearBelow r
  clear_below_first r N j l e = absurd (true≢false (sym e ∙ N.passed j (omega arith) l))

  module _ (from i : ℕ) (A : AtPacket D d.marks n from i) (l : i < n) where
    is_came : slice packets from (packet_bytes D i) ≡ came D packets i
    is_came = ap (λ x. slice packets x (packet_bytes D i)) A.starts

    pub clear_below_next : (r : ℕ) → NextMark true d.marks (i + 1) n r → ClearBelow i → ClearFrom (slice packets from (packet_bytes D i)) (packet_bits D i) → ClearBelow r
    clear_below_next r N before here j h e = elim (dec_lt j i) [
      | yes q ↦ before j q e
      | no q ↦ elim (ℕ_discrete i j) [
        | yes f ↦ rw (← f) (rw is_came at here)
        | no nf ↦ absurd (true≢false (sym e ∙ N.passed j (omega arith) h))
      ]
    ]

    pub stray_here : (ClearFrom (slice packets from (packet_bytes D i)) (packet_bits D i) → ⊥) → Stray D packets
    stray_here h = (i, l, A.found l, one_above (came D packets i) (packet_bits D i) (rw is_came at h))

  pub clear_below_last : (i : ℕ) → i ≡ n → ClearBelow i → Stray D packets → ⊥
  clear_below_last i f before (j, l, e, (p, lp, one)) = omega (arith, before j (omega arith) e p lp)
