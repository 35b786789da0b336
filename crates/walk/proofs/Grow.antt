-- Growing differences over the parities at hand and the missing sources: no walk stops short. Assumes nothing.
use mathlib.Core.Path.{◌≡◌, refl, sym, ap, ◌∙◌}
use mathlib.Core.Bool.{Bool, true, false}
use Prim.Native.Nat.{ℕ, zero, suc, ◌+◌, ◌≤◌, ◌<◌}
use native.Mathlib.Omega.{arith}
use native.Mathlib.Nat.{add-zero}
use native.Mathlib.Decide.{dec_lt, dec_le}
use lib.ListN.{length}
use Rattle.bits.specs.Sums.{sum, count}
use Rattle.bits.proofs.SumLaws.{count_add, count_grows, count_in, count-out, count_not}
use Rattle.table.specs.Desk.{Desk, Grows}
use Rattle.walk.specs.Walk.{Order, Gone, Held, Free, Stuck, Run, Fits, Whole}
use Rattle.walk.specs.Grow.{GrowsHere, Enough}
use Rattle.walk.proofs.Runs.{run_fits}
use Rattle.walk.proofs.Totals.{gone, all, total_whole, total_none, run-total}

-- a number that is in U leads to one in U with the least value: for a proof of falsehood
pub least : (U : ℕ → Type 0) (v : ℕ → ℕ) → ((b : ℕ) → U b → ((c : ℕ) → U c → v b ≤ v c) → ⊥) → (n u : ℕ) → v u < n → U u → ⊥
least U v k zero u l i = omega arith
least U v k (suc n) u l i = k u i (λ c j. elim (dec_le (v u) (v c)) [ yes h ↦ h | no h ↦ absurd (least U v k n c (omega arith) j) ])

module _ (D : Desk) (grows : GrowsHere D) (enough : Enough D) (g : ℕ → ℕ) (stuck : Stuck D g) where
  open D use {k, m, bits, shift, present}

  abbrev held : ℕ → Bool
  held a = present (k + a)

  abbrev at : ℕ → ℕ → ℕ
  at a b = shift a b + g b

  abbrev Least : ℕ → ℕ → Type 0
  Least a b = Free D g b × ((c : ℕ) → Free D g c → at a b ≤ at a c)

  -- the lowest open bits of the rows from r on lie in the columns below B
  record State (r B : ℕ) : Type 0 where
    some : ℕ
    free : Free D g some
    below : some < B
    room : count B (gone D) + count r held ≤ count k (gone D)
    left : (a b : ℕ) → r ≤ a → Held D a → Least a b → b < B

  marked : (b : ℕ) → Gone D b → count (suc b) (gone D) ≡ suc (count b (gone D))
  marked b gb = count_in b (gone D) (rw gb.1)

  module _ (r B : ℕ) (lt : r < m) (S : State r B) (next : (B' : ℕ) → State (suc r) B' → ⊥) where
    -- two lowest bits in row r: the next rows' lie in the columns up to the first
    two : held r ≡ true → (b c : ℕ) → b < c → Least r b → Least r c → ⊥
    two hr b c l P Q = next (suc b) record {
      some = b;
      free = P.0;
      below = omega arith;
      room = omega (arith, S.room, count_in r held hr, count_grows (gone D) (suc b) c l, marked c Q.0.0, count_grows (gone D) (suc c) B (S.left r c (omega arith) (lt, hr) Q));
      left = λ a b' ra ha R. elim (dec_lt b b') [
        | no n ↦ omega arith
        | yes y ↦ absurd (omega (arith, grows r a b b' ra (lt, hr) ha y P.0.0 R.0.0, P.1 b' R.0, R.1 b P.0))
      ];
    }

    row : (v : Bool) → held r ≡ v → ⊥
    row false hr = next B record {
      some = S.some;
      free = S.free;
      below = S.below;
      room = omega (arith, S.room, count-out r held hr);
      left = λ a b ra ha R. S.left a b (omega arith) ha R;
    }
    row true hr =
        least (Free D g) (at r) (λ b o lo. stuck r b record {
          held = (lt, hr);
          free = o;
          lowest = λ c ne f. elim (dec_lt (at r b) (at r c)) [
            | yes l ↦ l
            | no n ↦
                let Q : Least r c = (f, λ d od. omega (arith, lo d od)) in
                absurd (elim (dec_lt b c) [ yes l ↦ two hr b c l (o, lo) Q | no l ↦ two hr c b (omega arith) Q (o, lo) ])
          ];
        })
        (suc (at r S.some)) S.some (omega arith) S.free

  rows : (d r B : ℕ) → r + d ≡ m → State r B → ⊥
  rows zero r B e S =
      omega (arith, S.room, enough, marked S.some S.free.0, count_grows (gone D) (suc S.some) B S.below, ap (λ x. count x held) (sym (add-zero r) ∙ e))
  rows (suc d) r B e S = row r B (omega arith) S (λ B' S'. rows d (suc r) B' (omega arith) S') (held r) refl

  pub whole : (b : ℕ) → Gone D b → g b ≤ bits → g b ≡ bits
  unfolding sum
  whole b gb le = elim (dec_lt (g b) bits) [
    | no n ↦ omega arith
    | yes l ↦ absurd (rows m 0 k (omega arith) record {
      some = b;
      free = (gb, l);
      below = gb.0;
      room = omega arith;
      left = λ a c ra ha L. L.0.0.0;
    })
  ]

-- every complete run from nothing uncovers every bit, one bit a step
pub every_bit_here : (D : Desk) → GrowsHere D → Enough D → {o : Order} {h : ℕ → ℕ} → Run D (λ c. 0) o h → Stuck D h → Whole D h × (length o ≡ all D)
every_bit_here D grows enough {o} {h} u s = (full, omega (arith, run-total D u, total_whole D h fit full, total_none D))
  where
    fit : Fits D h
    fit = run_fits D u (λ c. omega arith)

    full : Whole D h
    full b gb = whole D grows enough h s b gb (fit b)

-- so where they grow over the whole table and k packets are present
pub every-bit : (D : Desk) → Grows D → count (D.k + D.m) D.present ≡ D.k → {o : Order} {h : ℕ → ℕ} → Run D (λ c. 0) o h → Stuck D h → Whole D h × (length o ≡ all D)
every-bit D grows enough =
    every_bit_here D (λ a a' b b' aa _ ha' bb _ gb'. grows a a' b b' aa ha'.0 bb gb'.0) (omega (arith, count_add D.present D.k D.m, enough, count_not D.k D.present))
