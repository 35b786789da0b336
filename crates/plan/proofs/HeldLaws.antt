-- The parities at hand are those not marked when the marks are turned over. Assumes nothing.
use mathlib.Core.Path.{◌≡◌, sym, ap, ◌∙◌}
use mathlib.Core.Bool.{not}
use mathlib.Core.List.{List, []}
use Prim.Native.Nat.{ℕ, ◌+◌, ◌/◌, ◌^◌, ◌≤◌, ◌<◌}
use native.Mathlib.Omega.{arith}
use native.Mathlib.Nat.{div-le_self}
use borrow.Author.Tests.{not-false}
use Rattle.table.specs.Limits.{max_m}
use Rattle.table.specs.Desk.{mark, desk}
use Rattle.table.proofs.MarkLaws.{mark_from, shared_mark}
use Rattle.walk.specs.Walk.{Held}
use Rattle.search.specs.Search.{Lists}
use Rattle.plan.specs.Plan.{AllHeld}
use Rattle.plan.specs.Even.{turned_over}
use Rattle.plan.proofs.ListedLaws.{lists_listed, listed_same}

turned_mark : (k marks : ℕ) → marks < 2 ^ 64 → (i : ℕ) → i < 64 → mark (turned_over k marks) i ≡ not (mark marks (k + i))
turned_mark k marks fits i l =
    shared_mark 64 (turned_over k marks) (marks / 2 ^ k) (omega (arith, div-le_self marks (2 ^ k))) i l ∙ ap not (mark_from marks k i)

-- so the list of those is the list of the parities at hand
pub turned_held : (k m marks : ℕ) (rows : List ℕ) (n : ℕ) → marks < 2 ^ 64 → m ≤ max_m → Lists m (turned_over k marks) rows n m → AllHeld (desk k m 0 [] marks) rows n
turned_held k m marks rows n fits few L = record {
  size = L.size;
  listed = listed_same _ (Held (desk k m 0 [] marks)) rows n
      (λ a h. (h.0, not-false _ (sym (turned_mark k marks fits a (omega (arith, h.0))) ∙ h.1)))
      (λ a h. (h.0, turned_mark k marks fits a (omega (arith, h.0)) ∙ ap not h.1))
      (lists_listed m (turned_over k marks) rows n L);
}

-- which parities are at hand goes by the sizes and the marks of a desk alone, whatever its sources' length and its shifts
pub held_of_desk : (k m marks bits bytes : ℕ) (shift : ℕ → ℕ → ℕ) (rows : List ℕ) (n : ℕ) → AllHeld (desk k m 0 [] marks) rows n
    → AllHeld record { k = k; m = m; bits = bits; bytes = bytes; shift = shift; present = mark marks } rows n
held_of_desk k m marks bits bytes shift rows n H = record { size = H.size; listed = H.listed }
