-- What is computed is what is meant; and every walk ends. Assumes nothing.
use mathlib.Core.Path.{◌≡◌, refl, sym, ◌∙◌, fun_ext, subst}
use mathlib.Core.Logic.{inl, inr}
use mathlib.Core.Bool.{Bool, true, false, ◌||◌, true≢false, or-true}
use mathlib.Core.List.{List}
use Rattle.std.specs.Int.{from_bool}
use Prim.Native.Nat.{ℕ, zero, suc, ◌+◌, ◌≤◌, ◌<◌}
use native.Mathlib.Omega.{arith}
use native.Mathlib.Decide.{dec_lt, ℕ_discrete}
use lib.Dec.{ltb}
use lib.ListN.{length, set, length-set}
use lib.Seq.{get_or-set_same, get_or-set_other}
use borrow.Author.Tests.{ltb-true, ltb-false, lt-ltb, leb-true, le-leb, lt-leb}
use Rattle.bits.specs.Sums.{at}
use Rattle.bits.proofs.SumLaws.{one_at_same, one_at_other, all-at, all_of, lowest_is, lowest_not}
use Rattle.table.specs.Desk.{Desk}
use Rattle.table.specs.Checks.{Flag}
use Rattle.walk.specs.Walk.{Order, bump, Bare, Stuck, Run, done, step, Fits, Whole, Lowest, Next, none, one}
use Rattle.walk.specs.Compute.{source_of, parity_of, full_b, whole_b, walk_from}
use Rattle.walk.proofs.Runs.{bump_fits}
use Rattle.walk.proofs.Scan.{bare_source, source_bare}
use Rattle.walk.proofs.Totals.{total, all, total_step, total-all}

-- one more bit of source b, in a list
pub at-bump : (l : List ℕ) (b : ℕ) → b < length l → at (set l b (at l b + 1)) ≡ bump (at l) b
at-bump l b h = fun_ext λ c. elim (ℕ_discrete b c) [
  | yes e ↦ rw (← e, get_or-set_same l b (at l b + 1) 0 h, one_at_same b b refl)
  | no ne ↦ rw (get_or-set_other l b c (at l b + 1) 0 (λ e. ne (sym e)), one_at_other b c ne) (omega arith)
]

or_second : (p q : Bool) → (p || q) ≡ true → p ≡ false → q ≡ true
or_second true q h e = absurd (true≢false e)
or_second false q h e = h

module _ (D : Desk) where
  open D use {k, m, bits, shift, present}

  pub parity_low : (g : ℕ → ℕ) (a b : ℕ) → Bare D g a b → parity_of D g ≤ a
  unfolding parity_of
  parity_low g a b B = elim (dec_lt a (parity_of D g)) [
    | no l ↦ omega arith
    | yes l ↦ absurd (lowest_not m (λ a. ltb (source_of D g a) k) a l (lt-ltb (source_of D g a) k (omega (arith, bare_source D g a b B, B.free.0.0))))
  ]

  pub pair_bare : (g : ℕ → ℕ) → parity_of D g < m → Bare D g (parity_of D g) (source_of D g (parity_of D g))
  unfolding parity_of
  pair_bare g l = source_bare D g (parity_of D g) l (ltb-true _ _ (lowest_is m (λ a. ltb (source_of D g a) k) l))

  -- so a pair that is the one computed is bare
  pub found_bare : (g : ℕ → ℕ) (a b : ℕ) → a < m → a ≡ parity_of D g → b ≡ source_of D g a → Bare D g a b
  found_bare g a b l ea eb = rw (eb, ea) (pair_bare g (omega arith))

  pub pair_lowest : (g : ℕ → ℕ) → parity_of D g < m → Lowest D g (parity_of D g) (source_of D g (parity_of D g))
  pair_lowest g l = record {
    bare = pair_bare g l;
    parity_low = parity_low g;
    source_low = λ b B. omega (arith, bare_source D g (parity_of D g) b B);
  }

  pub no_pair : (g : ℕ → ℕ) → m ≤ parity_of D g → Stuck D g
  no_pair g l a b B = omega (arith, parity_low g a b B, B.held.0)

  -- the next step, as it is computed
  pub next_none : (g : List ℕ) → m ≤ parity_of D (at g) → Next D g 0 0 g
  next_none g l = none (no_pair (at g) l) refl refl refl

  pub next_one : (g after : List ℕ) (a b : ℕ) → a < m → a ≡ parity_of D (at g) → b ≡ source_of D (at g) a → after ≡ set g b (at g b + 1) → Next D g (a + 1) (b + 1) after
  next_one g after a b l ea eb e = one a b (rw (eb, ea) (pair_lowest (at g) (omega arith))) refl refl e

  -- a source that is present or at its end
  pub full_present : (g : ℕ → ℕ) (b : ℕ) → present b ≡ true → full_b D g b ≡ true
  unfolding full_b
  full_present g b e = rw e

  pub full_ended : (g : ℕ → ℕ) (b : ℕ) → bits ≤ g b → full_b D g b ≡ true
  unfolding full_b
  full_ended g b l = rw (le-leb bits (g b) l, or-true)

  pub not_full : (g : ℕ → ℕ) (b : ℕ) → present b ≡ false → g b < bits → full_b D g b ≡ false
  unfolding full_b
  not_full g b e l = rw (e, lt-leb bits (g b) l)

  pub whole_of : (g : ℕ → ℕ) → Fits D g → whole_b D g ≡ true → Whole D g
  unfolding whole_b full_b
  whole_of g fit h b gb =
      omega (arith, fit b, leb-true bits (g b) (or_second (present b) _ (all-at k (full_b D g) h b gb.0) gb.1))

  pub of_whole : (g : ℕ → ℕ) → Whole D g → whole_b D g ≡ true
  unfolding whole_b
  of_whole g w = all_of k (full_b D g) (λ b l. go b l (present b) refl)
    where
      go : (b : ℕ) → b < k → (v : Bool) → present b ≡ v → full_b D g b ≡ true
      go b l true e = full_present g b e
      go b l false e = full_ended g b (omega (arith, w b (l, e)))

  -- whether every missing source is whole, as a number
  pub flagged : (g : ℕ → ℕ) → Fits D g → (v : Bool) → whole_b D g ≡ v → Flag (Whole D g) (from_bool v)
  flagged g fit true e = inl (whole_of g fit e, refl)
  flagged g fit false e = inr ((λ w. true≢false (sym (of_whole g w) ∙ e)), refl)

  -- steps from g until none is left
  abbrev pub EndsAt : List ℕ → Order × List ℕ → Type 0
  EndsAt g r = Run D (at g) r.0 (at r.1) × Stuck D (at r.1) × (length r.1 ≡ length g)

  -- with enough fuel the walk ends stuck
  pub walk_ends : (f : ℕ) (g : List ℕ) → k ≤ length g → Fits D (at g) → all D ≤ total D (at g) + f → EndsAt g (walk_from D f g)
  unfolding walk_from
  walk_ends zero g kl fit fuel = (done, λ a b B. omega (arith, total_step D (at g) b B.free.0, total-all D (bump (at g) b) (bump_fits D (at g) a b B fit)), refl)
  walk_ends (suc f) g kl fit fuel = go (ltb (parity_of D (at g)) m) refl (walk_ends f)
    where
      go : (v : Bool) → ltb (parity_of D (at g)) m ≡ v → ((g' : List ℕ) → k ≤ length g' → Fits D (at g') → all D ≤ total D (at g') + f → EndsAt g' (walk_from D f g'))
          → EndsAt g (walk_from D (suc f) g)
      go false e ih = rw (e, walk_from) (done, no_pair (at g) (ltb-false _ _ e), refl)
      go true e ih =
          let a = parity_of D (at g) in
          let b = source_of D (at g) a in
          let B = pair_bare (at g) (ltb-true _ _ e) in
          let eb = at-bump g b (omega (arith, B.free.0.0)) in
          let fit' : Fits D (at (set g b (at g b + 1))) = subst (λ (h : ℕ → ℕ). Fits D h) (sym eb) (bump_fits D (at g) a b B fit) in
          let more : all D ≤ total D (bump (at g) b) + f = omega (arith, total_step D (at g) b B.free.0) in
          let fuel' = subst (λ (h : ℕ → ℕ). all D ≤ total D h + f) (sym eb) more in
          let r = ih (set g b (at g b + 1)) (rw length-set kl) fit' fuel' in
          let w = walk_from D f (set g b (at g b + 1)) in
          rw (e, walk_from) (step a b B (subst (λ (h : ℕ → ℕ). Run D h w.0 (at w.1)) eb r.0), r.1, r.2 ∙ length-set g b (at g b + 1))
