-- What is added to the rows of the parities at hand. Assumes nothing.
use mathlib.Core.Path.{◌≡◌, refl, sym, ap, ◌∙◌}
use mathlib.Core.Bool.{true, false, cond}
use mathlib.Core.List.{List}
use Prim.Native.Nat.{ℕ, suc, ◌+◌, ◌-◌, ◌*◌, ◌/◌, ◌%◌, ◌^◌, ◌≤◌, ◌<◌}
use native.Mathlib.Omega.{arith}
use native.Mathlib.Nat.{add-zero}
use borrow.Author.Tests.{lt-ltb}
use Rattle.bits.specs.Sums.{one_at, sum}
use Rattle.bits.specs.Bits.{up}
use Rattle.bits.proofs.SumLaws.{one_at_times, mod_more, sum_nought, sum_add}
use Rattle.bits.proofs.UpLaws.{up_same, up-noughts}
use Rattle.table.specs.Desk.{Desk, mark}
use Rattle.table.specs.Table.{NextMark}
use Rattle.table.specs.Desks.{desk_of}
use Rattle.table.specs.declared.desks.Desk as laid
use Rattle.code.specs.Code.{Bits, sum_of}
use Rattle.code.proofs.CodeLaws.{sum_of_same}
use Rattle.rows.specs.Rows.{row_bits, row_in, AddedTo}
use Rattle.rows.proofs.RowLaws.{row_lt, added_other}
use Rattle.survivors.specs.Remainders.{marked_of, source_in, AddedToRests}
use Rattle.survivors.proofs.AtHand.{present_below, added_none, added_more, added_all}

-- belongs to bits
-- a sum whose terms from b on are noughts
sum_skip : (f : ℕ → ℕ) (b r : ℕ) → b ≤ r → ((c : ℕ) → b ≤ c → c < r → f c ≡ 0) → sum r f ≡ sum b f
sum_skip f b r l z =
    let e : r ≡ b + (r - b) = omega arith in
    ap (λ x. sum x f) e ∙ sum_add f b (r - b) ∙ ap (λ x. sum b f + x) (sum_nought (r - b) (λ i. f (b + i)) (λ i li. z (b + i) (omega arith) (omega arith))) ∙ add-zero _

pub marked_on : (marks : ℕ) (s : Bits) (c p : ℕ) → mark marks c ≡ true → marked_of marks s c p ≡ s c p
unfolding marked_of
marked_on marks s c p e = rw e

pub marked_off : (marks : ℕ) (s : Bits) (c p : ℕ) → mark marks c ≡ false → marked_of marks s c p ≡ 0
unfolding marked_of
marked_off marks s c p e = rw e

pub marked_same : (marks : ℕ) (s t : Bits) (c p : ℕ) → s c p ≡ t c p → marked_of marks s c p ≡ marked_of marks t c p
unfolding marked_of
marked_same marks s t c p e = ap (λ x. cond (mark marks c) x 0) e

module _ (D : Desk) where
  open D use {k}

  pub source_in_lem : (rows : List ℕ) (c p : ℕ) → c < k → source_in D rows c p ≡ row_in rows c p
  unfolding source_in
  source_in_lem rows c p l = rw (lt-ltb c k l)

-- ---- the marked sources, into the row of parity a, from one to the next

module _ (d : laid.Desk) (a marks : ℕ) (rows₀ : List ℕ) where
  -- source c's share of the sum
  pub share : ℕ → ℕ → ℕ
  share q c = up ((desk_of d).shift a c) (marked_of marks (source_in (desk_of d) rows₀) c) q

  share_off : (q c : ℕ) → mark marks c ≡ false → share q c ≡ 0
  unfolding share
  share_off q c e = up-noughts ((desk_of d).shift a c) (marked_of marks (source_in (desk_of d) rows₀) c) q (λ p. marked_off marks (source_in (desk_of d) rows₀) c p e)

  -- the sources below b were added
  pub record SourcesBelow (b : ℕ) (rows : List ℕ) : Type 0 where
    pub most : b ≤ d.k
    pub found : b < d.k → mark marks b ≡ true
    pub added : AddedTo (d.k + a) (λ q. sum b (share q)) rows₀ rows

  pub sources-first : (r : ℕ) → NextMark true marks 0 d.k r → SourcesBelow r rows₀
  sources-first r N = record {
    most = N.most;
    found = N.found;
    added = λ c p lp. rw (sum_nought r (share p) (λ j l. share_off p j (N.passed j (omega arith) l))) (omega (arith, row_lt rows₀ c p));
  }

  pub sources_next : (b r e : ℕ) (rows rows' : List ℕ) → SourcesBelow b rows → b < d.k → e ≡ (desk_of d).shift a b → NextMark true marks (b + 1) d.k r
      → AddedTo (d.k + a) (up e (row_in rows b)) rows rows' → SourcesBelow r rows'
  unfolding share sum
  sources_next b r e rows rows' B l is N step = record {
    most = N.most;
    found = N.found;
    added = λ c p lp.
        step c p lp ∙ mod_more (row_in rows c p) (row_in rows₀ c p) _ _ (B.added c p lp)
        ∙ ap (λ x. (row_in rows₀ c p + x) % 2) (times (one_at (d.k + a) c) (sum b (share p)) _ ∙ ap (λ x. one_at (d.k + a) c * x) (more p));
  }
    where
      times : (o x y : ℕ) → o * x + o * y ≡ o * (x + y)
      times o x y = omega arith

      here : (p : ℕ) → up e (row_in rows b) p ≡ share p b
      here p =
          ap (λ x. up x (row_in rows b) p) is
          ∙ up_same ((desk_of d).shift a b) (row_in rows b) (marked_of marks (source_in (desk_of d) rows₀) b) p (λ q _.
          added_other (d.k + a) _ rows₀ rows B.added b q (λ f. omega arith)
          ∙ sym (marked_on marks (source_in (desk_of d) rows₀) b q (B.found l) ∙ source_in_lem (desk_of d) rows₀ b q l))

      more : (p : ℕ) → sum b (share p) + up e (row_in rows b) p ≡ sum r (share p)
      more p = let b1 : b + 1 ≡ suc b = omega arith in
          ap (λ x. sum b (share p) + x) (here p) ∙ sym (sum_skip (share p) (b + 1) r N.from (λ c lo hi. share_off p c (N.passed c lo hi)) ∙ ap (λ x. sum x (share p)) b1)

  pub sources_last : (b : ℕ) (rows : List ℕ) → SourcesBelow b rows → d.k ≤ b → AddedTo (d.k + a) (sum_of (desk_of d) (marked_of marks (source_in (desk_of d) rows₀)) a) rows₀ rows
  unfolding share sum_of
  sources_last b rows B l c p lp =
      let e : b ≡ d.k = omega (arith, B.most) in
      B.added c p lp ∙ ap (λ x. (row_in rows₀ c p + one_at (d.k + a) c * sum x (share p)) % 2) e

-- ---- from one parity that is marked to the next

module _ (d : laid.Desk) (targets : ℕ) where
  abbrev D : Desk
  D = desk_of d

  abbrev n : ℕ
  n = d.k + d.m

  -- the bits h were added to the row of each marked parity below packet i, which is one, unless all were passed; the sources are as they were
  pub record RestsBelow (i : ℕ) (h : Bits) (rows₀ rows : List ℕ) : Type 0 where
    pub from : d.k ≤ i
    pub most : i ≤ n
    pub found : i < n → mark targets i ≡ true
    pub added : (a q : ℕ) → q < row_bits → row_in rows (d.k + a) q ≡ (row_in rows₀ (d.k + a) q + present_below targets i (d.k + a) (h a q)) % 2
    pub source : (c p : ℕ) → c < d.k → row_in rows c p ≡ row_in rows₀ c p

  pub rests_first : (r : ℕ) → NextMark true targets d.k n r → (h : Bits) (rows : List ℕ) → RestsBelow r h rows rows
  rests_first r N h rows = record {
    from = N.from;
    most = N.most;
    found = N.found;
    added = λ a q _. added_none targets d.k n r N (d.k + a) (h a q) (row_in rows (d.k + a) q) (row_lt rows (d.k + a) q) (omega arith);
    source = λ c p _. refl;
  }

  -- the marked sources were added to the row of packet i
  pub rests_next : (i r marks : ℕ) (rows₀ rows rows' : List ℕ) → RestsBelow i (sum_of D (marked_of marks (source_in D rows₀))) rows₀ rows → i < n → NextMark true targets (i + 1) n r
      → AddedTo (d.k + (i - d.k)) (sum_of D (marked_of marks (source_in D rows)) (i - d.k)) rows rows' → RestsBelow r (sum_of D (marked_of marks (source_in D rows₀))) rows₀ rows'
  rests_next i r marks rows₀ rows rows' B l N step = record {
    from = omega (arith, B.from, N.from);
    most = N.most;
    found = N.found;
    added = λ a q lq.
        added_more targets i n r (B.found l) N (d.k + a) (h a q) (row_in rows₀ (d.k + a) q) (row_in rows (d.k + a) q) (row_in rows' (d.k + a) q) (B.added a q lq)
        (step (d.k + a) q lq ∙ ap (λ v. (row_in rows (d.k + a) q + v) % 2) (here a q));
    source = λ c p lc. added_other (d.k + (i - d.k)) _ rows rows' step c p (λ e. omega arith) ∙ B.source c p lc;
  }
    where
      h : Bits
      h = sum_of D (marked_of marks (source_in D rows₀))

      is : d.k + (i - d.k) ≡ i
      is = omega (arith, B.from)

      same : (a q : ℕ) → sum_of D (marked_of marks (source_in D rows)) a q ≡ h a q
      same = sum_of_same D (marked_of marks (source_in D rows)) (marked_of marks (source_in D rows₀)) (λ c p lc.
          marked_same marks (source_in D rows) (source_in D rows₀) c p (source_in_lem D rows c p lc ∙ B.source c p lc ∙ sym (source_in_lem D rows₀ c p lc)))

      here : (a q : ℕ) → one_at (d.k + (i - d.k)) (d.k + a) * sum_of D (marked_of marks (source_in D rows)) (i - d.k) q ≡ one_at i (d.k + a) * h a q
      here a q =
          one_at_times (d.k + (i - d.k)) (d.k + a) _ _ (λ e. let f : i - d.k ≡ a = omega arith in same (i - d.k) q ∙ ap (λ x. h x q) f)
          ∙ ap (λ x. one_at x (d.k + a) * h a q) is

  pub rests_last : targets / 2 ^ n ≡ 0 → (i : ℕ) (h : Bits) (rows₀ rows : List ℕ) → RestsBelow i h rows₀ rows → n ≤ i → AddedToRests D (mark targets) h rows₀ rows
  rests_last none i h rows₀ rows B l = record {
    rest = λ a q lq.
        let e : i ≡ n = omega (arith, B.most) in
        added_all targets n none (d.k + a) (h a q) (row_in rows₀ (d.k + a) q) (row_in rows (d.k + a) q)
        (B.added a q lq ∙ ap (λ x. (row_in rows₀ (d.k + a) q + present_below targets x (d.k + a) (h a q)) % 2) e);
    source = B.source;
  }
