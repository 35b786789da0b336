-- The packets put into their rows, from one to the next, and what stands there then. Assumes nothing.
use mathlib.Core.Path.{◌≡◌, refl, sym, ap, ◌∙◌, subst}
use mathlib.Core.Bool.{Bool, true, false, cond}
use mathlib.Core.List.{List}
use Prim.Native.Nat.{ℕ, ◌+◌, ◌-◌, ◌*◌, ◌/◌, ◌%◌, ◌^◌, ◌≤◌, ◌<◌}
use native.Mathlib.Omega.{arith}
use native.Mathlib.Decide.{dec_lt}
use borrow.Author.Tests.{lt-ltb}
use lib.ListN.{take, drop}
use Rattle.bits.specs.Bits.{bit_at, slice}
use Rattle.bits.proofs.SumLaws.{one_at_times}
use Rattle.bits.proofs.BitLaws.{bit_at_lt}
use Rattle.bits.proofs.SliceLaws.{slice_past}
use Rattle.table.specs.Desk.{Desk, mark, packet_bytes, place_of}
use Rattle.table.specs.Table.{NextMark}
use Rattle.table.specs.Desks.{desk_of}
use Rattle.table.specs.declared.desks.Desk as laid
use Rattle.table.proofs.Bounds.{Bounded, parity_fits}
use Rattle.table.proofs.PacketLaws.{source_packet_bytes}
use Rattle.rows.specs.Rows.{row_bits, row_in, AddedTo}
use Rattle.rows.proofs.RowLaws.{row_past}
use Rattle.survivors.specs.Packets.{came, came_parity}
use Rattle.survivors.specs.Remainders.{source_in, InBytes, Placed}
use Rattle.survivors.proofs.AtHand.{AtPacket, present_below, added_none, added_more, added_all}

module _ (d : laid.Desk) (packets : List ℕ) where
  abbrev D : Desk
  D = desk_of d

  abbrev n : ℕ
  n = d.k + d.m

  -- the packets at hand below packet i stand in their rows, and nothing else
  abbrev pub PlacedBelow : ℕ → List ℕ → Type 0
  PlacedBelow i rows = (j p : ℕ) → p < row_bits → row_in rows j p ≡ (0 + present_below d.marks i j (bit_at (came D packets j) p)) % 2

  pub placed_first : (r : ℕ) → NextMark true d.marks 0 n r → (rows : List ℕ) → ((i p : ℕ) → row_in rows i p ≡ 0) → PlacedBelow r rows
  placed_first r N rows z j p _ = z j p ∙ added_none d.marks 0 n r N j (bit_at (came D packets j) p) 0 (omega arith) (omega arith)

  pub placed_next : (from end i r : ℕ) → AtPacket D d.marks n from i → i < n → end ≡ from + packet_bytes D i → NextMark true d.marks (i + 1) n r → (rows rows' : List ℕ)
      → PlacedBelow i rows → AddedTo i (bit_at (take (end - from) (drop from packets))) rows rows' → PlacedBelow r rows'
  placed_next from end i r A l e N rows rows' before added j p lp =
      added_more d.marks i n r (A.found l) N j _ 0 (row_in rows j p) (row_in rows' j p) (before j p lp)
      (added j p lp ∙ ap (λ v. (row_in rows j p + v) % 2) (one_at_times i j _ _ is_came))
    where
      is_came : i ≡ j → bit_at (take (end - from) (drop from packets)) p ≡ bit_at (came D packets j) p
      is_came f =
          let size : end - from ≡ packet_bytes D i = omega arith in
          ap (λ x. bit_at (slice packets from x) p) size
          ∙ ap (λ x. bit_at (slice packets x (packet_bytes D i)) p) A.starts ∙ ap (λ x. bit_at (came D packets x) p) f

  pub placed_last : d.marks / 2 ^ n ≡ 0 → (i : ℕ) → i ≡ n → (rows : List ℕ) → PlacedBelow i rows → Placed D packets rows
  placed_last none i e rows B j p lp =
      added_all d.marks n none j (bit_at (came D packets j) p) 0 (row_in rows j p) (subst (λ x. PlacedBelow x rows) e B j p lp) ∙ small (mark d.marks j) _ (bit_at_lt (came D packets j) p)
    where
      small : (v : Bool) (x : ℕ) → x < 2 → (0 + cond v x 0) % 2 ≡ cond v x 0
      small true x l = omega arith
      small false x l = refl

-- ---- what stands there then

module _ (D : Desk) (packets : List ℕ) where
  open D use {k, bytes, present}

  -- the bits of the parities that came
  pub came-parity_lt : (a q : ℕ) → came_parity D packets a q < 2
  unfolding came_parity
  came-parity_lt a q = bit_at_lt (came D packets (k + a)) q

  pub came-parity_past : Bounded D → (a q : ℕ) → row_bits ≤ q → came_parity D packets a q ≡ 0
  unfolding came_parity
  came-parity_past W a q l = slice_past packets (place_of D present (k + a)) (packet_bytes D (k + a)) q (omega (arith, parity_fits D W a))

  -- of a source that came no bit stands past its bytes
  came-source_past : (c p : ℕ) → c < k → 8 * bytes ≤ p → bit_at (came D packets c) p ≡ 0
  came-source_past c p lc l = slice_past packets (place_of D present c) (packet_bytes D c) p (omega (arith, source_packet_bytes D c lc))

  module _ (W : Bounded D) (rows : List ℕ) (P : Placed D packets rows) where
    -- a source's row at every place
    source_row : (c p : ℕ) → c < k → row_in rows c p ≡ cond (present c) (bit_at (came D packets c) p) 0
    source_row c p lc = elim (dec_lt p row_bits) [
      | yes l ↦ P c p l
      | no l ↦ row_past rows c p (omega arith) ∙ sym (none (omega (arith, W.bytes_high)) (present c))
    ]
      where
        none : 8 * bytes ≤ p → (v : Bool) → cond v (bit_at (came D packets c) p) 0 ≡ 0
        none h true = came-source_past c p lc h
        none h false = refl

    -- the present sources are as they came, the missing ones are blank, and none goes past its bytes
    pub placed_kept : (c p : ℕ) → c < k → present c ≡ true → source_in D rows c p ≡ bit_at (came D packets c) p
    unfolding source_in
    placed_kept c p lc e = rw (lt-ltb c k lc) (source_row c p lc ∙ rw e)

    pub placed_blank : (c p : ℕ) → c < k → present c ≡ false → source_in D rows c p ≡ 0
    unfolding source_in
    placed_blank c p lc e = rw (lt-ltb c k lc) (source_row c p lc ∙ rw e)

    pub placed_short : InBytes D rows
    placed_short c p lc l = source_row c p lc ∙ none (present c)
      where
        none : (v : Bool) → cond v (bit_at (came D packets c) p) 0 ≡ 0
        none true = came-source_past c p lc l
        none false = refl

    -- and so are the rows of the parities
    pub placed_rest : (a q : ℕ) → q < row_bits → row_in rows (k + a) q ≡ cond (present (k + a)) (came_parity D packets a q) 0
    unfolding came_parity
    placed_rest a q lq = P (k + a) q lq
