-- Laws of parts of equal length. Assumes nothing.
use mathlib.Core.Path.{◌≡◌, sym, ap, ap₂, ◌∙◌, subst}
use mathlib.Core.List.{List, ◌++◌}
use Prim.Native.Nat.{ℕ, zero, suc, ◌+◌, ◌*◌, ◌<◌}
use native.Mathlib.Omega.{arith}
use lib.ListN.{length, drop, take-append-drop}
use lib.Seq.{drop-drop}
use Rattle.bits.specs.Bits.{part}
use Rattle.bits.proofs.SliceLaws.{slice-length, part_in}

-- a part of n parts has its length
pub part_length : (xs : List ℕ) (n w t : ℕ) → length xs ≡ n * w → t < n → length (part xs w t) ≡ w
part_length xs n w t e l = slice-length xs (t * w) w (part_in t n w (length xs) l (omega arith))

-- lists with the same first n parts, and the same behind them, are the same
pub parts_ext : (n w : ℕ) (xs ys : List ℕ) → ((t : ℕ) → t < n → part xs w t ≡ part ys w t) → drop (n * w) xs ≡ drop (n * w) ys → xs ≡ ys
parts_ext zero w xs ys h e = let none : 0 * w ≡ 0 = omega arith in subst (λ i. drop i xs ≡ drop i ys) none e
parts_ext (suc n) w xs ys h e = parts_ext n w xs ys (λ t l. h t (omega arith)) (both (h n (omega arith)))
  where
    next : suc n * w ≡ n * w + w
    next = omega arith

    -- behind the part
    behind : (zs : List ℕ) → drop w (drop (n * w) zs) ≡ drop (suc n * w) zs
    behind zs = drop-drop w (n * w) zs ∙ ap (λ i. drop i zs) (sym next)

    both : part xs w n ≡ part ys w n → drop (n * w) xs ≡ drop (n * w) ys
    both f = sym (take-append-drop w (drop (n * w) xs)) ∙ ap₂ ◌++◌ f (behind xs ∙ e ∙ sym (behind ys)) ∙ take-append-drop w (drop (n * w) ys)
