-- Laws of lists of steps: how far they are led, one first bad step, and that the complete lists are the finished orders. Assumes nothing.
use mathlib.Core.Path.{◌≡◌, refl, sym, ap, ap₂, ◌∙◌, subst, fun_ext}
use mathlib.Core.Logic.{inl, inr}
use mathlib.Core.Bool.{Bool, true≢false}
use mathlib.Core.List.{List, [], ◌∷◌, ◌++◌, map, map-append, head-eq_of_cons-eq, tail-eq_of_cons-eq}
use Prim.Native.Nat.{ℕ, zero, suc, ◌+◌, ◌-◌, ◌≤◌, ◌<◌}
use native.Mathlib.Omega.{arith}
use native.Mathlib.Decide.{dec_lt}
use native.Mathlib.Numerals.{add-one}
use lib.Dec.{eqb}
use borrow.Author.Tests.{eqb-true, eqb-false}
use Rattle.std.specs.Prelude.{Option, Some, None, MatchOption, Result, Ok, Err}
use Rattle.std.specs.Option.{option_eq}
use Rattle.std.specs.Result.{IsErrAnd}
use lib.ListN.{length, take, length-append, length-map}
use lib.Seq.{length-take-le, take-length, take-suc, take-take, get_or-take}
use Rattle.bits.specs.Bits.{Tells}
use Rattle.bits.specs.Sums.{at, one_at}
use Rattle.table.specs.Limits.{max_k, max_bits, noughts}
use Rattle.table.specs.Desk.{Desk}
use Rattle.table.specs.Refusals.{number_of}
use Rattle.table.specs.declared.refusals.Refusal.{Refusal}
use Rattle.walk.specs.Walk.{Order, bump, Bare, Run, done, step, Fits, Whole}
use Rattle.walk.specs.Ends.{Reaches, Finishes}
use Rattle.walk.specs.Compute.{source_of}
use Rattle.walk.proofs.Scan.{source_bare, bare_source}
use Rattle.walk.proofs.Runs.{run_once, snoc}
use Rattle.walk.proofs.Reached.{at-noughts, reaches_fits}
use Rattle.steps.specs.Steps.{parity_numbers, source_numbers, Lists, BareStep, Led, FirstBad, EndsEarly, Complete}
use Rattle.steps.specs.Promise.{PlaceTold, Followed}
use Rattle.steps.specs.Parts.{steps_number, steps_place}
use Rattle.steps.specs.declared.BadSteps.{BadSteps}

-- ---- the numbers of an order

module _ (f : ℕ × ℕ → ℕ) where
  map-take : (i : ℕ) (o : Order) → take i (map f o) ≡ map f (take i o)
  map-take zero o = refl
  map-take (suc i) [] = refl
  map-take (suc i) (q ∷ o) = ap (λ (r : List ℕ). f q ∷ r) (map-take i o)

numbers_tell : (o o' : Order) → parity_numbers o ≡ parity_numbers o' → source_numbers o ≡ source_numbers o' → o ≡ o'
numbers_tell [] [] e f = refl
numbers_tell [] (q ∷ o') e f = absurd (omega (arith, ap length e))
numbers_tell (p ∷ o) [] e f = absurd (omega (arith, ap length e))
numbers_tell (p ∷ o) (q ∷ o') e f =
    let e0 : p.0 ≡ q.0 = omega (arith, head-eq_of_cons-eq e) in
    let f0 : p.1 ≡ q.1 = omega (arith, head-eq_of_cons-eq f) in
    ap₂ (λ (r : ℕ × ℕ) (l : Order). r ∷ l) (ap₂ (λ (a b : ℕ). (a, b)) e0 f0) (numbers_tell o o' (tail-eq_of_cons-eq e) (tail-eq_of_cons-eq f))

-- two lists are the numbers of one order only
pub lists_once : (parities sources : List ℕ) (o o' : Order) → Lists parities sources o → Lists parities sources o' → o ≡ o'
lists_once parities sources o o' L M = numbers_tell o o' (sym L.parities_are ∙ M.parities_are) (sym L.sources_are ∙ M.sources_are)

-- ---- the search of a parity tells whether two entries are bare

module _ (D : Desk) (g : ℕ → ℕ) (parity source : ℕ) where
  open D use {k, m, bits}

  pub found_bare : (1 ≤ parity) × (parity ≤ m) → (1 ≤ source) × (source ≤ k) → source_of D g (parity - 1) ≡ source - 1 → BareStep D g parity source
  found_bare p s e = record {
    a = parity - 1;
    b = source - 1;
    parity_is = omega (arith, p.0);
    source_is = omega (arith, s.0);
    bare = subst (Bare D g (parity - 1)) e (source_bare D g (parity - 1) (omega (arith, p)) (omega (arith, s)));
  }

  pub bare_found : BareStep D g parity source → source_of D g (parity - 1) ≡ source - 1
  bare_found B =
      let e : parity - 1 ≡ B.a = omega (arith, B.parity_is) in
      rw e (omega (arith, bare_source D g B.a B.b B.bare, B.source_is))

  -- and whether what it finds is the source of the second
  pub found_tells : (1 ≤ parity) × (parity ≤ m) → (1 ≤ source) × (source ≤ k) → (r : Option ℕ)
      → MatchOption r (k ≤ source_of D g (parity - 1)) (λ b. (b < k) × (b ≡ source_of D g (parity - 1)))
      → (v : Bool)
      → v ≡ option_eq eqb r (Some (source - 1))
      → Tells v (BareStep D g parity source)
  found_tells p s None h v e = record { so = λ t. absurd (true≢false (sym t ∙ e)); not_so = λ _ B. omega (arith, h, s, bare_found B) }
  found_tells p s (Some b) h v e = record {
    so = λ t. found_bare p s (sym h.1 ∙ eqb-true b (source - 1) (sym e ∙ t));
    not_so = λ f B. eqb-false b (source - 1) (sym e ∙ f) (h.1 ∙ bare_found B);
  }

  -- so its source is one of those that have progress, and has a bit left
  pub bare_room : k ≤ max_k → bits ≤ max_bits → BareStep D g parity source → (source - 1 < max_k) × (g (source - 1) ≤ max_bits)
  bare_room kl bl B =
      let e : source - 1 ≡ B.b = omega (arith, B.source_is) in
      (omega (arith, e, B.bare.free), omega (arith, ap g e, B.bare.free))

  -- and the entries are numbers of something
  pub bare_names_parity : BareStep D g parity source → (1 ≤ parity) × (parity ≤ m)
  bare_names_parity B = (omega (arith, B.parity_is), omega (arith, B.parity_is, B.bare.held.0))

  pub bare_names_source : BareStep D g parity source → (1 ≤ source) × (source ≤ k)
  bare_names_source B = (omega (arith, B.source_is), omega (arith, B.source_is, B.bare.free.0.0))

-- ---- how far a list is led

module _ (D : Desk) where
  -- step i of an order that is run, where the steps before it lead
  record Turn (g : ℕ → ℕ) (o : Order) (i : ℕ) : Type 0 where
    here : ℕ → ℕ
    run : Run D g (take i o) here
    bare : BareStep D here (at (parity_numbers o) i) (at (source_numbers o) i)

  turn : (i : ℕ) {g h : ℕ → ℕ} {o : Order} → i < length o → Run D g o h → Turn g o i
  turn i l done = absurd (omega arith)
  turn zero {g} l (step a b B u) = record { here = g; run = done; bare = record { a = a; b = b; parity_is = refl; source_is = refl; bare = B } }
  turn (suc i) l (step a b B u) =
      let t = turn i (omega arith) u in
      record { here = t.here; run = step a b B t.run; bare = t.bare }

  module _ (parities sources : List ℕ) where
    abbrev Here : ℕ → (ℕ → ℕ) → Type 0
    Here = Led D parities sources

    -- no step, and one more that is bare
    pub led_none : Here 0 (λ c. 0)
    led_none = record { order = []; long = refl; lists = record { parities_are = refl; sources_are = refl }; run = done }

    pub led_more : {n : ℕ} {g : ℕ → ℕ} → Here n g → n < length parities → n < length sources → (B : BareStep D g (at parities n) (at sources n)) → Here (n + 1) (bump g B.b)
    led_more {n} L lp ls B = record {
      order = L.order ++ (B.a, B.b) ∷ [];
      long = omega (arith, L.long, length-append L.order ((B.a, B.b) ∷ []));
      lists = record {
        parities_are = rw (add-one n) (longer parities lp (λ p. p.0 + 1) L.lists.parities_are B.parity_is);
        sources_are = rw (add-one n) (longer sources ls (λ p. p.1 + 1) L.lists.sources_are B.source_is);
      };
      run = snoc D B.a B.b L.run B.bare;
    }
      where
        longer : (xs : List ℕ) → n < length xs → (f : ℕ × ℕ → ℕ) → take n xs ≡ map f L.order → at xs n ≡ f (B.a, B.b) → take (suc n) xs ≡ map f (L.order ++ (B.a, B.b) ∷ [])
        longer xs l f e x = take-suc xs n 0 l ∙ ap₂ (λ (r : List ℕ) (y : ℕ). r ++ y ∷ []) e x ∙ sym (map-append f L.order ((B.a, B.b) ∷ []))

    abbrev pub led_reaches : {n : ℕ} {g : ℕ → ℕ} → Here n g → Reaches D n g
    led_reaches L = record { order = L.order; run = L.run; counted = sym L.long }

    pub led_fits : {n : ℕ} {g : ℕ → ℕ} → Here n g → Fits D g
    led_fits L = reaches_fits D (led_reaches L)

    -- the first n entries lead to one progress
    pub led_once : {n : ℕ} {g h : ℕ → ℕ} → Here n g → Here n h → g ≡ h
    led_once {n} {g} {h} L M =
        let same = lists_once (take n parities) (take n sources) L.order M.order L.lists M.lists in
        run_once D (subst (λ (o : Order). Run D (λ c. 0) o g) same L.run) M.run

    -- each step of what is led is bare where those before it lead
    pub led_before : {n : ℕ} {g : ℕ → ℕ} → Here n g → (i : ℕ) → i < n → (h : ℕ → ℕ) × Here i h × BareStep D h (at parities i) (at sources i)
    led_before {n} L i l =
        let t = turn i (omega (arith, L.long)) L.run in (
          t.here,
          record {
            order = take i L.order;
            long = length-take-le i L.order (omega (arith, L.long));
            lists = record {
              parities_are = first parities (λ p. p.0 + 1) L.lists.parities_are;
              sources_are = first sources (λ p. p.1 + 1) L.lists.sources_are;
            };
            run = t.run;
          },
          rw (sym (entry parities (λ p. p.0 + 1) L.lists.parities_are), sym (entry sources (λ p. p.1 + 1) L.lists.sources_are)) t.bare,
        )
      where
        first : (xs : List ℕ) (f : ℕ × ℕ → ℕ) → take n xs ≡ map f L.order → take i xs ≡ map f (take i L.order)
        first xs f e = sym (take-take i n xs (omega arith)) ∙ ap (take i) e ∙ map-take f i L.order

        entry : (xs : List ℕ) (f : ℕ × ℕ → ℕ) → take n xs ≡ map f L.order → at (map f L.order) i ≡ at xs i
        entry xs f e = ap (λ (r : List ℕ). at r i) (sym e) ∙ get_or-take n xs i 0 l

    -- so none of it is the first bad one
    pub none_bad : {n : ℕ} {g : ℕ → ℕ} → Here n g → (place : ℕ) (F : FirstBad D parities sources place) → F.before < n → ⊥
    none_bad L place F l =
        let b = led_before L F.before l in
        F.bad (subst (λ (h : ℕ → ℕ). BareStep D h (at parities F.before) (at sources F.before)) (led_once b.1 F.led) b.2)

    -- one place is that of the first bad step
    pub first_bad_once : (place place' : ℕ) → FirstBad D parities sources place → FirstBad D parities sources place' → place ≡ place'
    first_bad_once place place' F G = elim (dec_lt F.before G.before) [
      | yes l ↦ absurd (none_bad G.led place F l)
      | no l ↦ elim (dec_lt G.before F.before) [
        | yes r ↦ absurd (none_bad F.led place' G r)
        | no r ↦ omega (arith, F.counted, G.counted)
      ]
    ]

    -- a list that is led to its end has no bad step, and where all is whole there it does not end early
    pub led_none_bad : {g : ℕ → ℕ} → Here (length parities) g → (place : ℕ) × FirstBad D parities sources place → ⊥
    led_none_bad L (place, F) = none_bad L place F F.inside

    pub whole_not_early : {g : ℕ → ℕ} → Here (length parities) g → Whole D g → EndsEarly D parities sources → ⊥
    whole_not_early L w E = E.not_whole (subst (Whole D) (led_once L E.led) w)

-- ---- the check itself: where it stands after some steps, and its answers

-- refused by another check, it tells that check's number and no place
pub refused_nowhere : {A : Type 0} (r : Result A BadSteps) (e : Refusal) → IsErrAnd r (λ b. (b.refusal ≡ e) × (b.place ≡ 0)) → (steps_number r ≡ number_of e) × (steps_place r ≡ 0)
refused_nowhere (Ok a) e h = absurd h
refused_nowhere (Err b) e h = (ap number_of h.0, h.1)

module _ (D : Desk) (parities sources : List ℕ) where
  -- the first n steps lead to the progress in a list
  pub record Following (n : ℕ) (g : List ℕ) : Type 0 where
    pub led : Led D parities sources n (at g)
    pub size : length g ≡ max_k

  pub following_none : Following 0 noughts
  following_none = record { led = subst (Led D parities sources 0) at-noughts (led_none D parities sources); size = refl }

  -- one more, bare: where each source stands after it
  pub following_more : {n : ℕ} {g : List ℕ} → Following n g → n < length parities → n < length sources → (B : BareStep D (at g) (at parities n) (at sources n))
      → (after : List ℕ)
      → length after ≡ max_k
      → ((c : ℕ) → at after c ≡ at g c + one_at (at sources n - 1) c)
      → Following (n + 1) after
  following_more {n} {g} F lp ls B after long each =
      let e : at sources n - 1 ≡ B.b = omega (arith, B.source_is) in
      let here : at after ≡ bump (at g) B.b = fun_ext (λ c. each c ∙ ap (λ (b : ℕ). at g c + one_at b c) e) in
      record { led = subst (Led D parities sources (n + 1)) (sym here) (led_more D parities sources F.led lp ls B); size = long }

  -- with a number before 23 there is no place
  pub told_nowhere : (number place : ℕ) → number < 23 → place ≡ 0 → PlaceTold D parities sources number place
  told_nowhere number place l p = record { bad = λ e. absurd (omega arith); early = λ e. absurd (omega arith); nowhere = λ _ _. p }

  -- a step that is not bare; steps to the end, and all is whole; or something is not
  pub follow_bad : {g : ℕ → ℕ} (n number place : ℕ)
      → number ≡ 23
      → place ≡ n + 1
      → n < length parities
      → Led D parities sources n g
      → (BareStep D g (at parities n) (at sources n) → ⊥)
      → Followed D parities sources number place
  follow_bad {g} n number place e p l L bad =
      let F : FirstBad D parities sources place = record { before = n; counted = p; inside = l; progress = g; led = L; bad = bad } in
      record {
        numbered = inl ((place, F), e);
        refused = λ _. record { bad = λ _. F; early = λ z. absurd (omega arith); nowhere = λ h. absurd (h e) };
        done = λ z. absurd (omega arith);
      }

  module _ {g : ℕ → ℕ} (L : Led D parities sources (length parities) g) where
    pub follow_whole : length parities ≡ length sources → (number place : ℕ) → number ≡ 0 → place ≡ 0 → Whole D g → Followed D parities sources number place
    follow_whole as_long number place e p w = record {
      numbered = inr (led_none_bad D parities sources L, inr (whole_not_early D parities sources L w, e));
      refused = λ h. absurd (h e);
      done = λ _. (record { as_long = as_long; progress = g; led = L; whole = w }, p);
    }

    pub follow_early : (number place : ℕ) → number ≡ 24 → place ≡ length parities → (Whole D g → ⊥) → Followed D parities sources number place
    follow_early number place e p not_whole = record {
      numbered = inr (led_none_bad D parities sources L, inl (record { progress = g; led = L; not_whole = not_whole }, e));
      refused = λ _. record { bad = λ z. absurd (omega arith); early = λ _. p; nowhere = λ _ h. absurd (h e) };
      done = λ z. absurd (omega arith);
    }

-- ---- complete lists and finished orders

-- an order has as many parities as sources
pub numbers_long : (o : Order) → length (parity_numbers o) ≡ length (source_numbers o)
numbers_long o = length-map o (λ p. p.0 + 1) ∙ sym (length-map o (λ p. p.1 + 1))

-- its numbers are led where it runs
pub order_led : (D : Desk) {o : Order} {h : ℕ → ℕ} → Run D (λ c. 0) o h → Led D (parity_numbers o) (source_numbers o) (length (parity_numbers o)) h
order_led D {o} u = record {
  order = o;
  long = sym (length-map o (λ p. p.0 + 1));
  lists = record {
    parities_are = take-length (parity_numbers o);
    sources_are = ap (λ (n : ℕ). take n (source_numbers o)) (numbers_long o) ∙ take-length (source_numbers o);
  };
  run = u;
}

-- a complete list is the numbers of an order that finishes, and such an order's are complete
pub order_complete : (D : Desk) {o : Order} {h : ℕ → ℕ} → Run D (λ c. 0) o h → Whole D h → Complete D (parity_numbers o) (source_numbers o)
order_complete D {o} {h} u w = record {
  as_long = numbers_long o;
  progress = h;
  led = order_led D u;
  whole = w;
}

module _ (D : Desk) (parities sources : List ℕ) (C : Complete D parities sources) where
  pub complete_lists : Lists parities sources C.led.order
  complete_lists = record {
    parities_are = sym (take-length parities) ∙ C.led.lists.parities_are;
    sources_are = sym (take-length sources) ∙ ap (λ (n : ℕ). take n sources) (sym C.as_long) ∙ C.led.lists.sources_are;
  }

  pub complete_finishes : Finishes D (length parities)
  complete_finishes = record { end = C.progress; reached = led_reaches D parities sources C.led; whole = C.whole }
