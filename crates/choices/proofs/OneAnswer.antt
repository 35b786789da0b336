-- Two answers that meet a call's promise at the same input are the same, for each call for choices.
use mathlib.Core.Path.{◌≡◌, refl, sym, ◌∙◌}
use mathlib.Core.Logic.{inl, inr}
use mathlib.Core.Bool.{Bool, true, false}
use mathlib.Core.List.{List}
use Prim.Native.Nat.{ℕ}
use Rattle.bits.specs.Bits.{Tells}
use Rattle.choices.specs.Promise.{Begins, Follows, OrNoughts}
use Rattle.choices.proofs.Successors.{begins_once, follows_once}

-- is_choice
pub one_tells : {P : Type 0} (b b' : Bool) → Tells b P → Tells b' P → b ≡ b'
one_tells true true x y = refl
one_tells true false x y = absurd (y.not_so refl (x.so refl))
one_tells false true x y = absurd (x.not_so refl (y.so refl))
one_tells false false x y = refl

one_or_noughts : (P : List ℕ → Type 0) → ((held held' : List ℕ) → P held → P held' → held ≡ held') → (held held' : List ℕ) → OrNoughts P held → OrNoughts P held' → held ≡ held'
one_or_noughts P once held held' (inl p) (inl q) = once held held' p q
one_or_noughts P once held held' (inl p) (inr q) = absurd (q.0 held p)
one_or_noughts P once held held' (inr p) (inl q) = absurd (p.0 held' q)
one_or_noughts P once held held' (inr p) (inr q) = p.1 ∙ sym q.1

-- first
pub one_first : (k m : ℕ) (held held' : List ℕ) → OrNoughts (Begins k m) held → OrNoughts (Begins k m) held' → held ≡ held'
one_first k m = one_or_noughts (Begins k m) (begins_once k m)

-- next
pub one_next : (k m : ℕ) (from held held' : List ℕ) → OrNoughts (Follows k m from) held → OrNoughts (Follows k m from) held' → held ≡ held'
one_next k m from = one_or_noughts (Follows k m from) (follows_once k m from)
