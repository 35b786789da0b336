-- A choice as one number: that of the next choice is greater, and all are below one bound, so that the choices come to an end.
use mathlib.Core.Path.{◌≡◌, sym, ap, subst, ◌∙◌}
use mathlib.Core.Logic.{inl, inr}
use mathlib.Core.List.{List, [], ◌∷◌, ◌++◌}
use Prim.Native.Nat.{ℕ, zero, suc, ◌+◌, ◌-◌, ◌*◌, ◌≤◌, ◌<◌}
use native.Mathlib.Omega.{arith}
use lib.ListN.{length, replicate, length-append}
use Rattle.std.specs.Prelude.{Option, Some, None, IfSome}
use Rattle.table.specs.Limits.{max_k, max_m, noughts}
use Rattle.table.proofs.CheckLaws.{sized}
use Rattle.choices.specs.Choices.{Rising, Before}
use Rattle.choices.specs.Promise.{Follows}
use Rattle.choices.specs.declared.Choice as laid
use Rattle.choices.proofs.Successors.{held_long}

-- numbers as the digits of one, after a
rank : ℕ → List ℕ → ℕ
rank a [] = a
rank a (x ∷ xs) = rank (17 * a + x) xs

-- none is above the last packet number
abbrev Low : List ℕ → Type 0
Low [] = Unit
Low (x ∷ xs) = (x ≤ max_k + max_m) × Low xs

low_noughts : (n : ℕ) → Low (replicate n 0)
low_noughts zero = tt
low_noughts (suc n) = (omega arith, low_noughts n)

low_rising : (low n : ℕ) (xs ys : List ℕ) → n ≤ max_k + max_m → Rising low n xs → Low ys → Low (xs ++ ys)
low_rising low n [] ys l r y = y
low_rising low n (x ∷ xs) ys l r y = (omega (arith, r.1), low_rising x n xs ys l r.2 y)

-- what stands first decides
rank_less : (a b : ℕ) (xs ys : List ℕ) → a < b → length xs ≡ length ys → Low xs → rank a xs < rank b ys
unfolding rank
rank_less a b [] [] l e h = l
rank_less a b [] (y ∷ ys) l e h = absurd (omega (arith, e))
rank_less a b (x ∷ xs) [] l e h = absurd (omega (arith, e))
rank_less a b (x ∷ xs) (y ∷ ys) l e h = rank_less (17 * a + x) (17 * b + y) xs ys (omega (arith, h.0)) (omega (arith, e)) h.1

-- what comes later has the greater number
rank_rises : (a low n : ℕ) (xs ys zs : List ℕ) → n ≤ max_k + max_m → length xs ≡ length ys → Rising low n xs → Low zs → Before xs ys → rank a (xs ++ zs) < rank a (ys ++ zs)
unfolding rank
rank_rises a low n [] ys zs l e r z b = absurd b
rank_rises a low n (x ∷ xs) [] zs l e r z b = absurd b
rank_rises a low n (x ∷ xs) (y ∷ ys) zs l e r z (inl b) =
    rank_less (17 * a + x) (17 * a + y) (xs ++ zs) (ys ++ zs) (omega arith) (omega (arith, e, length-append xs zs, length-append ys zs)) (low_rising x n xs zs l r.2 z)
rank_rises a low n (x ∷ xs) (y ∷ ys) zs l e r z (inr b) =
    subst (λ v. rank (17 * a + x) (xs ++ zs) < rank (17 * a + v) (ys ++ zs)) b.0 (rank_rises (17 * a + x) x n xs ys zs l (omega (arith, e)) r.2 z b.1)

-- as many choices as are left at most, from the one that was given on
pub left : Option laid.Choice → ℕ
left None = 0
left (Some c) = suc (rank 1 noughts - rank 0 c.ids)

pub fewer_left : (k m : ℕ) (c : laid.Choice) (next : Option laid.Choice) → IfSome next (λ d. Follows k m c.ids d.ids) → left next < left (Some c)
unfolding left
fewer_left k m c None f = omega arith
fewer_left k m c (Some d) f =
    let s = sized k m f.was.sized in
    let n : k + m ≤ max_k + max_m = omega (arith, s.k_high, s.m_high) in
    let zs : List ℕ = replicate (max_k - length f.ids) 0 in
    let low = low_noughts (max_k - length f.ids) in
    let e : length f.ids ≡ length f.then = f.was.choice.size ∙ sym f.next.choice.size in
    let was : c.ids ≡ f.ids ++ zs = f.was.held_is in
    let is : d.ids ≡ f.then ++ zs = f.held_is ∙ ap (λ i. f.then ++ replicate (max_k - i) 0) (sym e) in
    let rises = rank_rises 0 0 (k + m) f.ids f.then zs n e f.was.choice.rising low f.next.after in
    let long : length d.ids ≡ max_k = held_long k m d.ids (record { sized = f.was.sized; choice = f.next.choice; held_is = f.held_is }) in
    let below : rank 0 d.ids < rank 1 noughts = rank_less 0 1 d.ids noughts (omega arith) long (subst Low (sym is) (low_rising 0 (k + m) f.then zs n f.next.choice.rising low)) in
    omega (arith, rises, below, ap (rank 0) was, ap (rank 0) is)
