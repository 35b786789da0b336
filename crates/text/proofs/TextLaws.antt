-- Laws of text put behind text at the front of a buffer.
use mathlib.Core.Path.{◌≡◌, sym, ap, ap₂, subst, ◌∙◌}
use mathlib.Core.List.{List, [], ◌∷◌, ◌++◌, append_assoc, append-nil}
use Prim.Native.Nat.{ℕ, suc, ◌+◌, ◌-◌, ◌≤◌, ◌<◌}
use native.Mathlib.Omega.{arith}
use lib.ListN.{length, get_or, take, drop, set, length-append, length-drop, drop_of_length-le}
use lib.Seq.{take_at, drop_at, take_all, drop-drop, drop-cons, set_at}
use Rattle.text.specs.Text.{Front, PutAt}

-- text that fits leaves a buffer as long as it was
pub front_length : (before text after : List ℕ) → length text ≤ length before → Front before text after → length after ≡ length before
front_length before text after l f = omega (arith, ap length f, length-append text (drop (length text) before), length-drop (length text) before)

-- more text laid over what stands behind the text at the front
pub put_front : (before text entry more : List ℕ) (at : ℕ) → at ≡ length text → Front before text entry → at + length more ≤ length entry
    → take at entry ++ ((more ++ drop (length more) (take (length entry - at) (drop at entry))) ++ drop (length entry - at) (drop at entry))
    ≡ (text ++ more) ++ drop (length (text ++ more)) before
put_front before text entry more at e f l =
    let d = drop at entry in
    let ld : length d ≡ length entry - at = length-drop at entry in
    let le : length d ≤ length entry - at = omega arith in
    let back : d ≡ drop at before = ap (drop at) f ∙ drop_at text (drop (length text) before) at (sym e) ∙ ap (λ n. drop n before) (sym e) in
    let ends : drop (length entry - at) d ≡ [] = drop_of_length-le d le in
    let places : at + length more ≡ length (text ++ more) = ap (λ n. n + length more) e ∙ sym (length-append text more) in
    let rest : drop (length more) d ≡ drop (length (text ++ more)) before = ap (drop (length more)) back ∙ drop-drop (length more) at before ∙ ap (λ n. drop n before) places in
    let kept : take at entry ≡ text = ap (take at) f ∙ take_at text (drop (length text) before) at (sym e) in
    ap₂ (λ a b. a ++ ((more ++ drop (length more) b) ++ drop (length entry - at) d)) kept (take_all (length entry - at) d le)
    ∙ ap₂ (λ a b. text ++ ((more ++ a) ++ b)) rest ends
    ∙ ap (λ t. text ++ t) (append-nil (more ++ drop (length (text ++ more)) before))
    ∙ sym (append_assoc text more (drop (length (text ++ more)) before))

-- one byte set behind the text at the front
pub put_one : (entry : List ℕ) (at byte : ℕ) → at < length entry → PutAt entry at (byte ∷ []) (set entry at byte)
put_one entry at byte l before text e f =
    let x = get_or before (length text) 0 in
    let rest = drop (suc (length text)) before in
    let fits : length text < length before = omega (arith, ap length f, length-append text (drop (length text) before), length-drop (length text) before) in
    let behind : drop (length text) before ≡ x ∷ rest = drop-cons before (length text) 0 fits in
    let longer : suc (length text) ≡ length (text ++ byte ∷ []) = omega (arith, length-append text (byte ∷ [])) in
    let after : rest ≡ drop (length (text ++ byte ∷ [])) before = ap (λ n. drop n before) longer in
    ap (λ t. set t at byte) (f ∙ ap (λ t. text ++ t) behind) ∙ set_at text x rest byte at (sym e)
    ∙ sym (append_assoc text (byte ∷ []) rest) ∙ ap (λ t. (text ++ byte ∷ []) ++ t) after

-- one text after another
pub put_both : (entry middle exit : List ℕ) (at next : ℕ) (t u : List ℕ) → next ≡ at + length t → PutAt entry at t middle → PutAt middle next u exit → PutAt entry at (t ++ u) exit
put_both entry middle exit at next t u e p q before text h f =
    let g = q before (text ++ t) (omega (arith, length-append text t)) (p before text h f) in
    subst (λ w. Front before w exit) (append_assoc text t u) g

pub put_none : (entry : List ℕ) (at : ℕ) → PutAt entry at [] entry
put_none entry at before text h f = subst (λ w. Front before w entry) (sym (append-nil text)) f
