-- Laws of the list and its order: a number that checks give stands in the list before those of all others that refuse, and no order can be exchanged. Assumes nothing.
use mathlib.Core.Path.{◌≡◌, refl, sym, ap, ◌∙◌, subst}
use mathlib.Core.Logic.{◌⊎◌, inl, inr}
use mathlib.Core.Bool.{Bool, true, false, not, ◌&&◌, ◌||◌, true≢false, and-eq-true_iff}
use mathlib.Core.List.{List, [], ◌∷◌, ◌++◌}
use Prim.Native.Nat.{ℕ}
use lib.Dec.{eqb}
use borrow.Author.Tests.{eqb-true, eq-eqb}
use Rattle.table.specs.Checks.{Checks, Checked, the_list, InOrder, numbers_of, Listed, Refuses}

-- n is one of the numbers
abbrev Among : ℕ → List ℕ → Type 0
Among n [] = ⊥
Among n (x ∷ xs) = (n ≡ x) ⊎ Among n xs

-- ---- in order, computed

abbrev in_order_b : List ℕ → List ℕ → Bool
in_order_b [] list = true
in_order_b (n ∷ ns) [] = false
in_order_b (n ∷ ns) (x ∷ list) = (eqb n x && in_order_b ns (x ∷ list)) || in_order_b (n ∷ ns) list

either : (v w : Bool) → (v || w) ≡ true → (v ≡ true) ⊎ (w ≡ true)
either true w e = inl refl
either false w e = inr e

pub in_order_by : (ns list : List ℕ) → in_order_b ns list ≡ true → InOrder ns list
in_order_by [] list e = tt
in_order_by (n ∷ ns) [] e = absurd (true≢false (sym e))
in_order_by (n ∷ ns) (x ∷ list) e = elim (either (eqb n x && in_order_b ns (x ∷ list)) (in_order_b (n ∷ ns) list) e) [
  | inl v ↦
      let w = (and-eq-true_iff (eqb n x) (in_order_b ns (x ∷ list))).0 v in
      inl (eqb-true n x w.0, in_order_by ns (x ∷ list) w.1)
  | inr v ↦ inr (in_order_by (n ∷ ns) list v)
]

-- the checks are made in the order of the list, by computing
pub listed_by : (cs : Checks) → in_order_b (numbers_of cs) the_list ≡ true → Listed cs
listed_by cs e = in_order_by (numbers_of cs) the_list e

-- ---- parts of numbers in order

-- all but the first
in_order_rest : (n : ℕ) (ns list : List ℕ) → InOrder (n ∷ ns) list → InOrder ns list
in_order_rest n [] list x = tt
in_order_rest n (b ∷ ns) (y ∷ list) (inl x) = x.1
in_order_rest n (b ∷ ns) (y ∷ list) (inr x) = inr (in_order_rest n (b ∷ ns) list x)
in_order_rest n (b ∷ ns) [] x = elim x [ ]

-- the first alone
in_order_first : (n : ℕ) (ns list : List ℕ) → InOrder (n ∷ ns) list → InOrder (n ∷ []) list
in_order_first n ns (y ∷ list) (inl x) = inl (x.0, tt)
in_order_first n ns (y ∷ list) (inr x) = inr (in_order_first n ns list x)
in_order_first n ns [] x' = elim x' [ ]

-- any of them alone
in_order_any : (ns list : List ℕ) → InOrder ns list → (n : ℕ) → Among n ns → InOrder (n ∷ []) list
in_order_any (b ∷ ns) list x n (inl e) = in_order_first n ns list (subst (λ (i : ℕ). InOrder (i ∷ ns) list) (sym e) x)
in_order_any (b ∷ ns) list x n (inr m) = in_order_any ns list (in_order_rest b ns list x) n m
in_order_any [] list x n x3 = elim x3 [ ]

-- the first and any other
in_order_pair : (a : ℕ) (ns list : List ℕ) → InOrder (a ∷ ns) list → (n : ℕ) → Among n ns → InOrder (a ∷ n ∷ []) list
in_order_pair a ns (y ∷ list) (inl x) n m = inl (x.0, in_order_any ns (y ∷ list) x.1 n m)
in_order_pair a ns (y ∷ list) (inr x) n m = inr (in_order_pair a ns list x n m)
in_order_pair a ns [] x'' n m = elim x'' [ ]

-- the first twice
in_order_twice : (a : ℕ) (ns list : List ℕ) → InOrder (a ∷ ns) list → InOrder (a ∷ a ∷ []) list
in_order_twice a ns (y ∷ list) (inl x) = inl (x.0, inl (x.0, tt))
in_order_twice a ns (y ∷ list) (inr x) = inr (in_order_twice a ns list x)
in_order_twice a ns [] x' = elim x' [ ]

-- ---- the number that checks give

refuses_among : (cs : Checks) (n : ℕ) → Refuses cs n → Among n (numbers_of cs)
refuses_among (c ∷ cs) n (inl x) = inl x.1
refuses_among (c ∷ cs) n (inr x) = inr (refuses_among cs n x)
refuses_among [] n x' = elim x' [ ]

-- none refuses and it is 0; or a check of that number refuses, and none that refuses stands before it
pub number_in_order : (list : List ℕ) (cs : Checks) → InOrder (numbers_of cs) list → (n : ℕ) → Checked cs n
    → ((n ≡ 0) × ((x : ℕ) → Refuses cs x → ⊥)) ⊎ (Refuses cs n × ((x : ℕ) → Refuses cs x → InOrder (n ∷ x ∷ []) list))
number_in_order list [] o n e = inl (e, λ x r. r)
number_in_order list (c ∷ cs) o n (inl z) = inr (inl z, λ x r. first x r)
  where
    ordered : InOrder (n ∷ numbers_of cs) list
    ordered = subst (λ (i : ℕ). InOrder (i ∷ numbers_of cs) list) (sym z.1) o

    first : (x : ℕ) → Refuses (c ∷ cs) x → InOrder (n ∷ x ∷ []) list
    first x (inl r) = subst (λ (i : ℕ). InOrder (n ∷ i ∷ []) list) (z.1 ∙ sym r.1) (in_order_twice n (numbers_of cs) list ordered)
    first x (inr r) = in_order_pair n (numbers_of cs) list ordered x (refuses_among cs x r)
number_in_order list (c ∷ cs) o n (inr z) = elim (number_in_order list cs (in_order_rest c.0 (numbers_of cs) list o) n z.1) [
  | inl r ↦ inl (r.0, λ x y. none x y r.1)
  | inr r ↦ inr (inr r.0, λ x y. first x y r.1)
]
  where
    none : (x : ℕ) → Refuses (c ∷ cs) x → ((x : ℕ) → Refuses cs x → ⊥) → ⊥
    none x (inl y) h = z.0 y.0
    none x (inr y) h = h x y

    first : (x : ℕ) → Refuses (c ∷ cs) x → ((x : ℕ) → Refuses cs x → InOrder (n ∷ x ∷ []) list) → InOrder (n ∷ x ∷ []) list
    first x (inl y) h = absurd (z.0 y.0)
    first x (inr y) h = h x y

-- ---- no order can be exchanged

-- no number stands twice
abbrev Distinct : List ℕ → Type 0
Distinct [] = Unit
Distinct (x ∷ xs) = (Among x xs → ⊥) × Distinct xs

in_order_head : (a : ℕ) (ns list : List ℕ) → InOrder (a ∷ ns) list → Among a list
in_order_head a ns (y ∷ list) (inl x) = inl x.0
in_order_head a ns (y ∷ list) (inr x) = inr (in_order_head a ns list x)
in_order_head a ns [] x' = elim x' [ ]

in_order_second : (a b : ℕ) (list : List ℕ) → InOrder (a ∷ b ∷ []) list → Among b list
in_order_second a b list x = in_order_head b [] list (in_order_rest a (b ∷ []) list x)

-- two numbers that stand both ways round are the same
one_way : (list : List ℕ) → Distinct list → (a b : ℕ) → InOrder (a ∷ b ∷ []) list → InOrder (b ∷ a ∷ []) list → a ≡ b
one_way (y ∷ list) d a b (inl x) (inl z) = x.0 ∙ sym z.0
one_way (y ∷ list) d a b (inl x) (inr z) = absurd (d.0 (subst (λ (i : ℕ). Among i list) x.0 (in_order_second b a list z)))
one_way (y ∷ list) d a b (inr x) (inl z) = absurd (d.0 (subst (λ (i : ℕ). Among i list) z.0 (in_order_second a b list x)))
one_way (y ∷ list) d a b (inr x) (inr z) = one_way list d.1 a b x z
one_way [] d a b x3 _ = elim x3 [ ]

abbrev among_b : ℕ → List ℕ → Bool
among_b n [] = false
among_b n (x ∷ xs) = eqb n x || among_b n xs

among_told : (n : ℕ) (xs : List ℕ) → Among n xs → among_b n xs ≡ true
among_told n (x ∷ xs) (inl e) = ap (λ (v : Bool). v || among_b n xs) (eq-eqb n x e)
among_told n [] x' = elim x' [ ]
among_told n (x ∷ xs) (inr m) = ap (λ (v : Bool). eqb n x || v) (among_told n xs m) ∙ or_true (eqb n x)
  where
    or_true : (v : Bool) → (v || true) ≡ true
    or_true true = refl
    or_true false = refl

abbrev distinct_b : List ℕ → Bool
distinct_b [] = true
distinct_b (x ∷ xs) = not (among_b x xs) && distinct_b xs

distinct_by : (xs : List ℕ) → distinct_b xs ≡ true → Distinct xs
distinct_by [] e = tt
distinct_by (x ∷ xs) e =
    let w = (and-eq-true_iff (not (among_b x xs)) (distinct_b xs)).0 e in
    ((λ m. true≢false (sym w.0 ∙ ap not (among_told x xs m))), distinct_by xs w.1)

-- two checks, one behind the other
among-behind : (between back : Checks) (d : ℕ × Type 0) → Among d.0 (numbers_of (between ++ d ∷ back))
among-behind [] back d = inl refl
among-behind (a ∷ between) back d = inr (among-behind between back d)

behind : (front between back : Checks) (c d : ℕ × Type 0) (list : List ℕ) → InOrder (numbers_of (front ++ c ∷ (between ++ d ∷ back))) list → InOrder (c.0 ∷ d.0 ∷ []) list
behind [] between back c d list o = in_order_pair c.0 (numbers_of (between ++ d ∷ back)) list o d.0 (among-behind between back d)
behind (a ∷ front) between back c d list o = behind front between back c d list (in_order_rest a.0 (numbers_of (front ++ c ∷ (between ++ d ∷ back))) list o)

-- checks in the order of the list are not so with two of them exchanged, unless both have the same number
pub listed_one_way : (front between back : Checks) (c d : ℕ × Type 0) → Listed (front ++ c ∷ (between ++ d ∷ back)) → Listed (front ++ d ∷ (between ++ c ∷ back)) → c.0 ≡ d.0
listed_one_way front between back c d x y =
    one_way the_list (distinct_by the_list refl) c.0 d.0 (behind front between back c d the_list x) (behind front between back d c the_list y)
