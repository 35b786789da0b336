-- One pass over a parity's sources finds the one that is bare there. Assumes nothing.
use mathlib.Core.Path.{◌≡◌, refl, sym, ap, ◌∙◌, subst}
use mathlib.Core.Logic.{◌≢◌}
use mathlib.Core.Bool.{Bool, true, false, true≢false, or-true}
use Prim.Native.Nat.{ℕ, zero, suc, ◌+◌, ◌≤◌, ◌<◌}
use native.Mathlib.Omega.{arith}
use native.Mathlib.Decide.{dec_lt, ℕ_discrete}
use borrow.Author.Tests.{eq-eqb, ne_eqb, lt-ltb, le-ltb, le-leb, lt-leb}
use Rattle.bits.specs.Sums.{pick}
use Rattle.table.specs.Desk.{Desk}
use Rattle.walk.specs.Walk.{Held, Free, Bare}
use Rattle.walk.specs.Compute.{placed_of, lower_of, scan, source_of}

-- the ways of two places
module _ (k : ℕ) (x : ℕ × ℕ) (p b : ℕ) where
  pub placed_first : x.1 ≡ k → (p, b) ≡ placed_of k x p b
  unfolding placed_of
  placed_first f = rw (eq-eqb x.1 k f)

  pub placed_under : p < x.0 → (p, b) ≡ placed_of k x p b
  unfolding placed_of
  placed_under f = rw (lt-ltb p x.0 f, or-true)

  pub placed_level : x.1 ≢ k → p ≡ x.0 → (p, k + 1) ≡ placed_of k x p b
  unfolding placed_of
  placed_level f h =
      let q : x.0 ≤ p = omega arith in
      rw (ne_eqb x.1 k f, le-ltb p x.0 q, eq-eqb p x.0 h)

  pub placed_over : x.1 ≢ k → x.0 < p → x ≡ placed_of k x p b
  unfolding placed_of
  placed_over f h =
      let q : x.0 ≤ p = omega arith in
      let n : p ≢ x.0 = λ z. omega arith in
      rw (ne_eqb x.1 k f, le-ltb p x.0 q, ne_eqb p x.0 n)

module _ (D : Desk) (g : ℕ → ℕ) (a : ℕ) where
  open D use {k, m, bits, shift, present}

  -- where source c's next bit stands
  abbrev pub place : ℕ → ℕ
  place c = shift a c + g c

  -- the ways of one look, as a program's branches find them
  pub lower_present : (b : ℕ) (x : ℕ × ℕ) → present b ≡ true → x ≡ lower_of D g a b x
  unfolding lower_of
  lower_present b x e = rw e

  pub lower_full : (b : ℕ) (x : ℕ × ℕ) → bits ≤ g b → x ≡ lower_of D g a b x
  unfolding lower_of
  lower_full b x l = rw (le-leb bits (g b) l, or-true)

  pub lower_free : (b : ℕ) (x : ℕ × ℕ) → present b ≡ false → g b < bits → placed_of k x (place b) b ≡ lower_of D g a b x
  unfolding lower_of
  lower_free b x e l = rw (e, lt-leb bits (g b) l)

  -- what is known after the first n sources
  pub data Scanned (n : ℕ) (x : ℕ × ℕ) : Type 0 where
    empty : x.1 ≡ k → ((c : ℕ) → c < n → Free D g c → ⊥) → Scanned n x
    alone : (b : ℕ) → x.1 ≡ b → b < n → Free D g b → x.0 ≡ place b → ((c : ℕ) → c < n → b ≢ c → Free D g c → place b < place c) → Scanned n x
    tied : k < x.1 → (b c : ℕ) → b ≢ c → Free D g b → Free D g c → x.0 ≡ place b → x.0 ≡ place c → ((d : ℕ) → d < n → Free D g d → x.0 ≤ place d) → Scanned n x

  -- below suc n is below n, or n
  split : (n : ℕ) (P : ℕ → Type 0) → ((c : ℕ) → c < n → P c) → P n → (c : ℕ) → c < suc n → P c
  split n P f p c l = elim (ℕ_discrete c n) [ yes e ↦ subst P (sym e) p | no ne ↦ f c (omega arith) ]

  -- a source that is not free changes nothing
  skip : (n : ℕ) (x : ℕ × ℕ) → (Free D g n → ⊥) → Scanned n x → Scanned (suc n) x
  skip n x no-n (empty e f) = empty e (split n (λ c. Free D g c → ⊥) f no-n)
  skip n x no-n (alone b e l fr p f) = alone b e (omega arith) fr p (split n (λ c. b ≢ c → Free D g c → place b < place c) f (λ ne fn. absurd (no-n fn)))
  skip n x no-n (tied e b c ne fb fc pb pc f) = tied e b c ne fb fc pb pc (split n (λ d. Free D g d → x.0 ≤ place d) f (λ fn. absurd (no-n fn)))

  -- one more free source: the first, a lower one, a level one, a higher one
  look : (n : ℕ) (x : ℕ × ℕ) → n < k → Free D g n → Scanned n x → Scanned (suc n) (placed_of k x (place n) n)
  look n x l fr (empty e f) = subst (Scanned (suc n)) (placed_first k x (place n) n e)
      (alone n refl (omega arith) fr refl (split n (λ c. n ≢ c → Free D g c → place n < place c) (λ c q ne fc. absurd (f c q fc)) (λ ne fn. absurd (ne refl))))
  look n x l fr (alone b e lb fb p f) = elim (dec_lt (place n) x.0) [
    | yes u ↦ subst (Scanned (suc n)) (placed_under k x (place n) n u)
        (alone n refl (omega arith) fr refl (split n (λ c. n ≢ c → Free D g c → place n < place c) (λ c q ne fc. omega (arith, least c q fc)) (λ ne fn. absurd (ne refl))))
    | no o ↦ elim (ℕ_discrete (place n) x.0) [
      | yes v ↦ subst (Scanned (suc n)) (placed_level k x (place n) n (λ z. omega arith) v)
          (tied (omega arith) b n (λ z. omega arith) fb fr (v ∙ p) refl (split n (λ d. Free D g d → place n ≤ place d) (λ d q fd. omega (arith, least d q fd)) (λ fn. omega arith)))
      | no w ↦ subst (Scanned (suc n)) (placed_over k x (place n) n (λ z. omega arith) (omega arith))
          (alone b e (omega arith) fb p (split n (λ c. b ≢ c → Free D g c → place b < place c) f (λ ne fn. omega arith)))
    ]
  ]
    where
      least : (c : ℕ) → c < n → Free D g c → x.0 ≤ place c
      least c q fc = elim (ℕ_discrete b c) [ yes z ↦ omega (arith, ap place z) | no ne ↦ omega (arith, f c q ne fc) ]
  look n x l fr (tied e b c ne fb fc pb pc f) = elim (dec_lt (place n) x.0) [
    | yes u ↦ subst (Scanned (suc n)) (placed_under k x (place n) n u)
        (alone n refl (omega arith) fr refl (split n (λ d. n ≢ d → Free D g d → place n < place d) (λ d q nd fd. omega (arith, f d q fd)) (λ nd fn. absurd (nd refl))))
    | no o ↦ elim (ℕ_discrete (place n) x.0) [
      | yes v ↦ subst (Scanned (suc n)) (placed_level k x (place n) n (λ z. omega arith) v)
          (tied (omega arith) b c ne fb fc (v ∙ pb) (v ∙ pc) (split n (λ d. Free D g d → place n ≤ place d) (λ d q fd. omega (arith, f d q fd)) (λ fn. omega arith)))
      | no w ↦ subst (Scanned (suc n)) (placed_over k x (place n) n (λ z. omega arith) (omega arith))
          (tied e b c ne fb fc pb pc (split n (λ d. Free D g d → x.0 ≤ place d) f (λ fn. omega arith)))
    ]
  ]

  pub scanned : (n : ℕ) → n ≤ k → Scanned n (scan D g a n)
  unfolding scan
  scanned zero l = empty refl (λ c q f. omega arith)
  scanned (suc n) l = go (scan D g a n) (scanned n (omega arith)) (present n) refl
    where
      go : (x : ℕ × ℕ) → Scanned n x → (v : Bool) → present n ≡ v → Scanned (suc n) (lower_of D g a n x)
      go x s true e = subst (Scanned (suc n)) (lower_present n x e) (skip n x (λ f. true≢false (sym e ∙ f.0.1)) s)
      go x s false e = elim (dec_lt (g n) bits) [
        | yes q ↦ subst (Scanned (suc n)) (lower_free n x e q) (look n x (omega arith) ((omega arith, e), q) s)
        | no q ↦ subst (Scanned (suc n)) (lower_full n x (omega arith)) (skip n x (λ f. omega arith) s)
      ]

  found : (x : ℕ × ℕ) → Held D a → Scanned k x → x.1 < k → Bare D g a x.1
  found x h (empty e f) l = absurd (omega arith)
  found x h (alone b e lb fb p f) l = subst (Bare D g a) (sym e) record { held = h; free = fb; lowest = λ c ne fc. f c fc.0.0 ne fc }
  found x h (tied e b c ne fb fc pb pc f) l = absurd (omega arith)

  finds : (x : ℕ × ℕ) (b : ℕ) → Bare D g a b → Scanned k x → x.1 ≡ b
  finds x b B (empty e f) = absurd (f b B.free.0.0 B.free)
  finds x b B (alone d e ld fd p f) = elim (ℕ_discrete d b) [
    | yes z ↦ e ∙ z
    | no ne ↦ absurd (omega (arith, f b B.free.0.0 ne B.free, B.lowest d (λ z. ne (sym z)) fd))
  ]
  finds x b B (tied e d c ne fd fc pd pc f) = elim (ℕ_discrete d b) [
    | yes z ↦ absurd (omega (arith, B.lowest c (λ y. ne (z ∙ y)) fc, ap place z))
    | no n ↦ absurd (omega (arith, B.lowest d (λ y. n (sym y)) fd, f b B.free.0.0 B.free))
  ]

  pub source_absent : present (k + a) ≡ false → k ≡ source_of D g a
  unfolding source_of
  source_absent e = rw e

  pub source-held : present (k + a) ≡ true → (scan D g a k).1 ≡ source_of D g a
  unfolding source_of
  source-held e = rw e

  -- the source found is bare, and what is bare is found
  pub source_bare : a < m → source_of D g a < k → Bare D g a (source_of D g a)
  unfolding source_of
  source_bare la h = go (present (k + a)) refl h
    where
      go : (v : Bool) → present (k + a) ≡ v → pick v (scan D g a k).1 k < k → Bare D g a (pick v (scan D g a k).1 k)
      go true e h = found (scan D g a k) (la, e) (scanned k (omega arith)) h
      go false e h = absurd (omega arith)

  pub bare_source : (b : ℕ) → Bare D g a b → source_of D g a ≡ b
  unfolding source_of
  bare_source b B = rw B.held.1 (finds (scan D g a k) b B (scanned k (omega arith)))
