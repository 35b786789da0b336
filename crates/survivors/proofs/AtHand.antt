-- From one packet present to the next: where each stands, and what is added up on the way. Assumes nothing.
use mathlib.Core.Path.{◌≡◌, sym, ap, ◌∙◌}
use mathlib.Core.Bool.{true, cond, ◌&&◌, and-false}
use Prim.Native.Nat.{ℕ, ◌+◌, ◌*◌, ◌/◌, ◌%◌, ◌^◌, ◌≤◌, ◌<◌}
use native.Mathlib.Omega.{arith}
use native.Mathlib.Decide.{ℕ_discrete, dec_lt}
use lib.Dec.{ltb}
use borrow.Author.Tests.{lt-ltb, le-ltb}
use Rattle.bits.specs.Sums.{one_at}
use Rattle.bits.proofs.SumLaws.{one_at_same, one_at_other, mod_more}
use Rattle.table.specs.Desk.{Desk, mark, packet_bytes, place_of}
use Rattle.table.specs.Table.{NextMark}
use Rattle.table.proofs.MarkLaws.{no_mark_above, unmarked}
use Rattle.table.proofs.PacketLaws.{place_none, place_on, place_next, place_ends}

-- belongs to table
-- a parity at hand is one of the m
pub held_in : (marks k m : ℕ) → marks / 2 ^ (k + m) ≡ 0 → (a : ℕ) → mark marks (k + a) ≡ true → a < m
held_in marks k m z a e = elim (dec_lt a m) [
  | yes l ↦ l
  | no l ↦ absurd (no_mark_above (k + m) marks z (k + a) (omega arith) e)
]

-- packet i of n is present, unless all were passed, and starts at byte `from`
pub record AtPacket (D : Desk) (marks n from i : ℕ) : Type 0 where
  pub most : i ≤ n
  pub found : i < n → mark marks i ≡ true
  pub starts : from ≡ place_of D (mark marks) i

module _ (D : Desk) (marks n : ℕ) where
  pub at_first : (i : ℕ) → NextMark true marks 0 n i → AtPacket D marks n 0 i
  at_first i N = record { most = N.most; found = N.found; starts = place_none D (mark marks) ∙ place_next D marks 0 n i N }

  module _ (from i : ℕ) (A : AtPacket D marks n from i) (l : i < n) where
    pub at_room : from + packet_bytes D i ≤ place_of D (mark marks) n
    at_room = omega (arith, A.starts, place_ends D (mark marks) i n l (A.found l))

    pub at_next : (end r : ℕ) → end ≡ from + packet_bytes D i → NextMark true marks (i + 1) n r → AtPacket D marks n end r
    at_next end r e N = record {
      most = N.most;
      found = N.found;
      starts = e ∙ ap (λ x. x + packet_bytes D i) A.starts ∙ place_on D (mark marks) i (A.found l) ∙ place_next D marks (i + 1) n r N;
    }

-- x, if packet j is present and below i
abbrev pub present_below : ℕ → ℕ → ℕ → ℕ → ℕ
present_below marks i j x = cond (ltb j i && mark marks j) x 0

module _ (marks : ℕ) where
  -- no packet is passed on the way to the next that is present
  below_next : (i n r : ℕ) → NextMark true marks i n r → (j x : ℕ) → present_below marks r j x ≡ present_below marks i j x
  below_next i n r N j x = elim (dec_lt j i) [
    | yes l ↦ let l' : j < r = omega (arith, N.from) in rw (lt-ltb j r l', lt-ltb j i l)
    | no l ↦ elim (dec_lt j r) [
      | yes q ↦ rw (N.passed j (omega arith) q, and-false, and-false)
      | no q ↦ let l' : r ≤ j = omega arith in let l'' : i ≤ j = omega arith in rw (le-ltb j r l', le-ltb j i l'')
    ]
  ]

  -- packet i, which is present, is passed
  below_one : (i : ℕ) → mark marks i ≡ true → (j x : ℕ) → present_below marks (i + 1) j x ≡ present_below marks i j x + one_at i j * x
  below_one i here j x = elim (ℕ_discrete i j) [
    | yes e ↦
        let l : j < i + 1 = omega arith in
        let l' : i ≤ j = omega arith in
        rw (lt-ltb j (i + 1) l, le-ltb j i l', one_at_same i j e, ap (mark marks) (sym e) ∙ here) (omega arith)
    | no ne ↦ rw (one_at_other i j ne) (elim (dec_lt j i) [
      | yes l ↦ let l' : j < i + 1 = omega arith in rw (lt-ltb j (i + 1) l', lt-ltb j i l) (omega arith)
      | no l ↦ let l' : i + 1 ≤ j = omega arith in let l'' : i ≤ j = omega arith in rw (le-ltb j (i + 1) l', le-ltb j i l'') (omega arith)
    ])
  ]

  -- what was added to bit b of packet j: nothing yet; at packet i; and all
  pub added_none : (i n r : ℕ) → NextMark true marks i n r → (j x b : ℕ) → b < 2 → i ≤ j → b ≡ (b + present_below marks r j x) % 2
  added_none i n r N j x b l h = rw (below_next i n r N j x, le-ltb j i h) (omega arith)

  pub added_more : (i n r : ℕ) → mark marks i ≡ true → NextMark true marks (i + 1) n r
      → (j x b₀ b b' : ℕ) → b ≡ (b₀ + present_below marks i j x) % 2 → b' ≡ (b + one_at i j * x) % 2 → b' ≡ (b₀ + present_below marks r j x) % 2
  added_more i n r here N j x b₀ b b' e f =
      f ∙ mod_more b b₀ (present_below marks i j x) (one_at i j * x) e
      ∙ ap (λ v. (b₀ + v) % 2) (sym (below_next (i + 1) n r N j x ∙ below_one i here j x))

  pub added_all : (n : ℕ) → marks / 2 ^ n ≡ 0 → (j x b₀ b : ℕ) → b ≡ (b₀ + present_below marks n j x) % 2 → b ≡ (b₀ + cond (mark marks j) x 0) % 2
  added_all n z j x b₀ b e = e ∙ ap (λ v. (b₀ + v) % 2) (elim (dec_lt j n) [
    | yes l ↦ rw (lt-ltb j n l)
    | no l ↦ rw (unmarked marks n j z (omega arith), and-false)
  ])
