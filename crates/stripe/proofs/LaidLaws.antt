-- A part of a list laid anew: what is there then, and what is as it was. Assumes nothing.
use mathlib.Core.Path.{◌≡◌, sym, ap, ◌∙◌}
use mathlib.Core.List.{List, ◌++◌}
use Prim.Native.Nat.{ℕ, ◌+◌, ◌≤◌}
use native.Mathlib.Omega.{arith}
use lib.ListN.{length, take, drop, length-append, length-drop, take-append-drop}
use lib.Seq.{length-take-le, take_at, drop_at, drop-drop, take-append-le, drop-append-le}
use Rattle.bits.specs.Bits.{slice}

-- xs with the n places from a on taken by ys
abbrev pub laid : ℕ → ℕ → List ℕ → List ℕ → List ℕ
laid a n ys xs = take a xs ++ (ys ++ drop n (drop a xs))

-- a slice within the front of a list is one of the front
front-slice : (xs ys : List ℕ) (b j : ℕ) → b + j ≤ length xs → slice (xs ++ ys) b j ≡ slice xs b j
front-slice xs ys b j l =
    ap (take j) (drop-append-le b xs ys (omega arith)) ∙ take-append-le j (drop b xs) ys (omega (arith, length-drop b xs))

-- with the same there the list is the same
pub laid_same : (a n : ℕ) (xs ys : List ℕ) → ys ≡ slice xs a n → laid a n ys xs ≡ xs
laid_same a n xs ys e =
    ap (λ (z : List ℕ). take a xs ++ (z ++ drop n (drop a xs))) e ∙ ap (λ (z : List ℕ). take a xs ++ z) (take-append-drop n (drop a xs)) ∙ take-append-drop a xs

module _ (a n : ℕ) (xs ys : List ℕ) (long : length ys ≡ n) (fits : a + n ≤ length xs) where
  front : length (take a xs) ≡ a
  front = length-take-le a xs (omega arith)

  pub laid-length : length (laid a n ys xs) ≡ length xs
  laid-length = omega (
    arith,
    length-append (take a xs) (ys ++ drop n (drop a xs)),
    length-append ys (drop n (drop a xs)),
    length-drop n (drop a xs),
    length-drop a xs,
    front,
    long,
    fits,
  )

  pub laid_here : slice (laid a n ys xs) a n ≡ ys
  laid_here = ap (take n) (drop_at (take a xs) (ys ++ drop n (drop a xs)) a front) ∙ take_at ys (drop n (drop a xs)) n long

  pub laid_before : (b j : ℕ) → b + j ≤ a → slice (laid a n ys xs) b j ≡ slice xs b j
  laid_before b j l =
      front-slice (take a xs) (ys ++ drop n (drop a xs)) b j (omega (arith, front))
      ∙ sym (ap (λ (z : List ℕ). slice z b j) (sym (take-append-drop a xs)) ∙ front-slice (take a xs) (drop a xs) b j (omega (arith, front)))

  pub laid-after : drop (a + n) (laid a n ys xs) ≡ drop (a + n) xs
  laid-after =
      sym (drop-drop n a (laid a n ys xs)) ∙ ap (drop n) (drop_at (take a xs) (ys ++ drop n (drop a xs)) a front)
      ∙ drop_at ys (drop n (drop a xs)) n long ∙ drop-drop n a xs
