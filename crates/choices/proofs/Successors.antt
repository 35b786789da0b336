-- The first choice and the next, as the code holds them; that each is the only one, and that every choice but the last has a next.
use mathlib.Core.Path.{◌≡◌, refl, sym, ap, ap₂, subst, ◌∙◌}
use mathlib.Core.Logic.{◌⊎◌, inl, inr}
use mathlib.Core.List.{List, [], ◌∷◌, ◌++◌}
use Prim.Native.Nat.{ℕ, suc, ◌+◌, ◌-◌, ◌≤◌, ◌<◌}
use native.Mathlib.Omega.{arith}
use native.Mathlib.Numerals.{add-one}
use lib.ListN.{length, take, drop, replicate, length-take, length-drop, length-append, length-replicate, take-append-drop}
use lib.Seq.{take_at, drop_at, take-take, split_at, get_or-take}
use Rattle.bits.specs.Sums.{at}
use Rattle.bits.proofs.BitLaws.{get_or-zeros}
use Rattle.table.specs.Limits.{max_k, max_m, noughts}
use Rattle.table.specs.Checks.{Checked, size_checks}
use Rattle.table.proofs.CheckLaws.{sized}
use Rattle.choices.specs.Choices.{Rising, Before, Full, run, Choice, Next, Last, padded}
use Rattle.choices.specs.Promise.{Holding, Begins, Follows}
use Rattle.choices.proofs.Orders.{Grows, rising_to, full_or_grows, grown, run_length, first_choice, next_choice, last_choice, grown-length, before_one_way}
use Rattle.choices.proofs.Holding.{blank}

drop-noughts : (k : ℕ) → k ≤ max_k → drop k noughts ≡ replicate (max_k - k) 0
drop-noughts k l = blank k noughts l (λ j _ _. get_or-zeros max_k j)

-- numbers followed by as many noughts as are left are padded
padded_by : (k : ℕ) (xs ys : List ℕ) → length xs ≡ k → ys ≡ replicate (max_k - k) 0 → xs ++ ys ≡ padded xs
padded_by k xs ys e q = ap (λ t. xs ++ t) (q ∙ ap (λ n. replicate (max_k - n) 0) (sym e))

module _ (k m : ℕ) where
  pub begins_run : Checked (size_checks k m) 0 → Begins k m (take 0 noughts ++ run 1 (k - 0) ++ drop k noughts)
  begins_run c =
      let s = sized k m c in
      let z : k - 0 ≡ k = omega arith in
      record {
        sized = c;
        ids = run 1 k;
        first = first_choice k (k + m) (omega arith);
        held_is = ap (λ n. run 1 n ++ drop k noughts) z ∙ padded_by k (run 1 k) (drop k noughts) (run_length 1 k) (drop-noughts k s.k_high);
      }

  module _ (held : List ℕ) where
    -- what is held tells the choice
    pub held-take : {ids : List ℕ} → Holding k m held ids → (ids ≡ take k held) × (drop k held ≡ replicate (max_k - k) 0)
    held-take {ids} h =
        let e = h.choice.size in
        (sym (ap (take k) h.held_is ∙ take_at ids _ k e), ap (drop k) h.held_is ∙ drop_at ids _ k e ∙ ap (λ n. replicate (max_k - n) 0) e)

    pub one_held : {ids ids' : List ℕ} → Holding k m held ids → Holding k m held ids' → ids ≡ ids'
    one_held x y = (held-take x).0 ∙ sym (held-take y).0

    pub held_of : length held ≡ max_k → Checked (size_checks k m) 0 → Rising 0 (k + m) (take k held) → drop k held ≡ replicate (max_k - k) 0 → Holding k m held (take k held)
    held_of l c r b =
        let s = sized k m c in
        let e : length (take k held) ≡ k = simp length-take (omega (arith, s.k_high)) in
        record {
          sized = c;
          choice = record { size = e; rising = r };
          held_is = sym (take-append-drop k held) ∙ padded_by k (take k held) (drop k held) e b;
        }

    pub held_long : {ids : List ℕ} → Holding k m held ids → length held ≡ max_k
    held_long {ids} h =
        let s = sized k m h.sized in
        let whole : length held ≡ length ids + (max_k - length ids) = ap length h.held_is ∙ length-append ids _ ∙ ap (λ n. length ids + n) (length-replicate (max_k - length ids) 0) in
        omega (arith, h.choice.size, s.k_high)

    -- the numbers of a choice that is held rise, none above k + m
    pub held_rises_to_n : {ids : List ℕ} → Holding k m held ids → Rising 0 (k + m) (take k held)
    held_rises_to_n h = subst (Rising 0 (k + m)) (held-take h).0 h.choice.rising

    -- so they are packet numbers
    pub held_rises : {ids : List ℕ} → Holding k m held ids → Rising 0 (max_k + max_m) (take k held)
    held_rises h =
        let s = sized k m h.sized in
        rising_to (k + m) 0 (max_k + max_m) (take k held) (omega (arith, s.k_high, s.m_high)) (held_rises_to_n h)

    -- and not noughts
    pub held_not_noughts : {ids : List ℕ} → Holding k m held ids → held ≡ noughts → ⊥
    held_not_noughts {ids} h z = go ids h.choice (sym h.held_is ∙ z)
      where
        go : (ids : List ℕ) → Choice k (k + m) ids → padded ids ≡ noughts → ⊥
        go [] c e = omega (arith, c.size, (sized k m h.sized).k_low)
        go (x ∷ ids) c e = omega (arith, c.rising.0, ap (λ t. at t 0) e)

    -- where none can grow, nothing follows
    pub nothing_follows : {ids : List ℕ} → Holding k m held ids → Full (k + m) (take k held) → (other : List ℕ) → Follows k m held other → ⊥
    nothing_follows h f other w =
        let e = sym (held-take w.was).0 in
        last_choice k (k + m) w.ids w.was.choice (subst (Full (k + m)) e f) w.then w.next.choice w.next.after

    -- where nothing follows, the choice is the last
    pub last_where_none_follows : {ids : List ℕ} → Holding k m held ids → ((other : List ℕ) → Follows k m held other → ⊥) → Last k (k + m) ids
    last_where_none_follows {ids} h n = go (full_or_grows (k + m) 0 ids h.choice.rising)
      where
        go : Full (k + m) ids ⊎ Grows (k + m) ids → Last k (k + m) ids
        go (inl f) = last_choice k (k + m) ids h.choice f
        go (inr g) =
            let c : Choice k (k + m) (g.front ++ g.number ∷ g.rest) = subst (Choice k (k + m)) g.parts h.choice in
            let next = grown (k + m) g.number g.rest g.front in
            let least = next_choice k (k + m) g.number g.front g.rest c g.full g.room in
            let w : Next k (k + m) ids next = subst (λ u. Next k (k + m) u next) (sym g.parts) least in
            absurd (n (padded next) (record { ids = ids; was = h; then = next; next = w; held_is = refl }))

    -- where the number at q is the last that can grow, it does, and those after it count up from it
    pub grown_follows : {ids : List ℕ} → Holding k m held ids → (q : ℕ) → q < k → Full (k + m) (drop (suc q) (take k held)) → at held q + (k - suc q) < k + m
        → Follows k m held (take q held ++ run (at held q + 1) (k - q) ++ drop k held)
    grown_follows {ids} h q lq f l =
        let n = held_long h in
        let s = sized k m h.sized in
        let xs = take k held in
        let lx : length xs ≡ k = simp length-take (omega (arith, s.k_high)) in
        let p = take q xs in
        let x = at held q in
        let t = drop (suc q) xs in
        let lt : length t ≡ k - suc q = length-drop (suc q) xs ∙ ap (λ a. a - suc q) lx in
        let whole : xs ≡ p ++ x ∷ t = split_at xs q 0 (omega arith) ∙ ap (λ a. p ++ a ∷ t) (get_or-take k held q 0 lq) in
        let c : Choice k (k + m) (p ++ x ∷ t) = subst (Choice k (k + m)) ((held-take h).0 ∙ whole) h.choice in
        let then = p ++ run (suc x) (suc (length t)) in
        let size : k - q ≡ suc (length t) = omega arith in
        let lthen : length then ≡ k = grown-length (k + m) x t p ∙ c.size in
        record {
          ids = ids;
          was = h;
          then = then;
          next = subst (λ u. Next k (k + m) u then) (sym ((held-take h).0 ∙ whole)) (next_choice k (k + m) x p t c f (omega arith));
          held_is = ap₂ (λ a b. a ++ b ++ drop k held) (sym (take-take q k held (omega arith))) (ap₂ run (add-one x) size) ∙ padded_by k then (drop k held) lthen (held-take h).1;
        }

-- two first choices are the same, and two next ones
pub one_least : (xs ys : List ℕ) → (ys ≡ xs) ⊎ Before xs ys → (xs ≡ ys) ⊎ Before ys xs → xs ≡ ys
one_least xs ys (inl e) b = sym e
one_least xs ys (inr a) (inl e) = e
one_least xs ys (inr a) (inr b) = absurd (before_one_way xs ys a b)

pub begins_once : (k m : ℕ) (held held' : List ℕ) → Begins k m held → Begins k m held' → held ≡ held'
begins_once k m held held' b c =
    b.held_is ∙ ap padded (one_least b.ids c.ids (b.first.least c.ids c.first.choice) (c.first.least b.ids b.first.choice)) ∙ sym c.held_is

pub follows_once : (k m : ℕ) (from held held' : List ℕ) → Follows k m from held → Follows k m from held' → held ≡ held'
follows_once k m from held held' b c =
    let e : c.ids ≡ b.ids = one_held k m from c.was b.was in
    let n : Next k (k + m) b.ids c.then = subst (λ u. Next k (k + m) u c.then) e c.next in
    b.held_is ∙ ap padded (one_least b.then c.then (b.next.least c.then n.choice n.after) (n.least b.then b.next.choice b.next.after)) ∙ sym c.held_is
