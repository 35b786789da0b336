-- Laws of numbers put after commas, and of what is printed.
use mathlib.Core.Path.{◌≡◌, refl, sym, ap, subst, ◌∙◌}
use mathlib.Core.List.{List, [], ◌∷◌, ◌++◌, append_assoc, append-nil}
use Prim.Native.Nat.{ℕ, ◌+◌, ◌≤◌, ◌<◌}
use native.Mathlib.Omega.{arith}
use native.Mathlib.Numerals.{add-one}
use native.Mathlib.Decide.{dec_lt}
use lib.ListN.{length, drop, length-append, length-drop, drop_of_length-le}
use lib.Seq.{drop-cons}
use Rattle.bits.specs.Sums.{at}
use Rattle.text.specs.Text.{comma, PutAt}
use Rattle.text.specs.Numerals.{numeral}
use Rattle.text.proofs.TextLaws.{put_both, put_none}
use Rattle.sheet.specs.Printing.{after_commas, commaed, room}
use Rattle.sheet.specs.Promise.{Printed}

-- numbers that were put each after a comma, and those that are still to be put
pub record Put (entry : List ℕ) (start : ℕ) (xs : List ℕ) (i : ℕ) (out : List ℕ) (end : ℕ) : Type 0 where
  pub text : List ℕ
  pub ends : end ≡ start + length text
  pub done : PutAt entry start text out
  pub left : text ++ after_commas (drop i xs) ≡ after_commas (drop 1 xs)

pub put_start : (entry : List ℕ) (start : ℕ) (xs : List ℕ) → Put entry start xs 1 entry start
put_start entry start xs = record { text = []; ends = omega arith; done = put_none entry start; left = refl }

pub put_next : (entry : List ℕ) (start : ℕ) (xs : List ℕ) (i : ℕ) (out out' out'' : List ℕ) (end end' end'' : ℕ) → i < length xs → Put entry start xs i out end
    → end' ≡ end + 1 → PutAt out end (comma ∷ []) out' → end'' ≡ end' + length (numeral (at xs i)) → PutAt out' end' (numeral (at xs i)) out''
    → Put entry start xs (i + 1) out'' end''
unfolding after_commas
put_next entry start xs i out out' out'' end end' end'' l p e a e' b =
    let x = at xs i in
    let both = put_both out out' out'' end end' (comma ∷ []) (numeral x) (omega arith) a b in
    let here : after_commas (drop i xs) ≡ (comma ∷ numeral x) ++ after_commas (drop (i + 1) xs) =
    ap after_commas (drop-cons xs i 0 l) ∙ ap (λ n. (comma ∷ numeral x) ++ after_commas (drop n xs)) (sym (add-one i)) in
    record {
      text = p.text ++ (comma ∷ numeral x);
      ends = omega (arith, p.ends, length-append p.text (comma ∷ numeral x));
      done = put_both entry out out'' start end p.text (comma ∷ numeral x) p.ends p.done both;
      left = append_assoc p.text (comma ∷ numeral x) (after_commas (drop (i + 1) xs)) ∙ ap (λ t. p.text ++ t) (sym here) ∙ p.left;
    }

pub put_end : (entry : List ℕ) (start : ℕ) (xs : List ℕ) (i : ℕ) (out : List ℕ) (end : ℕ) → length xs ≤ i → Put entry start xs i out end
    → (end ≡ start + length (after_commas (drop 1 xs))) × PutAt entry start (after_commas (drop 1 xs)) out
unfolding after_commas
put_end entry start xs i out end l p =
    let e : p.text ≡ after_commas (drop 1 xs) = sym (append-nil p.text) ∙ ap (λ t. p.text ++ after_commas t) (sym (drop_of_length-le xs l)) ∙ p.left in
    (p.ends ∙ ap (λ t. start + length t) e, subst (λ t. PutAt entry start t out) e p.done)

pub commaed-first : (xs : List ℕ) → 0 < length xs → commaed xs ≡ numeral (at xs 0) ++ after_commas (drop 1 xs)
unfolding commaed
commaed-first [] l = absurd (omega arith)
commaed-first (x ∷ xs) l = refl

-- what was printed lies within the buffer
pub printed_fits : (text before : List ℕ) (count : ℕ) (after : List ℕ) → Printed text before count after → length after ≡ length before → count ≤ length after
printed_fits text before count after p e = elim (dec_lt (length before) room) [
  | yes l ↦ omega (arith, (p.short l).0)
  | no l ↦ (
      let d = p.done (omega arith) in
      omega (arith, d.0, ap length d.1, length-append text (drop (length text) before), length-drop (length text) before))
]
