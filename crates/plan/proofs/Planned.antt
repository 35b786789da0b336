-- What is planned: the walk would uncover every bit of the missing sources. Assumes nothing.
use mathlib.Core.Path.{◌≡◌, ap, ap₂}
use mathlib.Core.Bool.{not}
use mathlib.Core.List.{List}
use Prim.Native.Nat.{ℕ, ◌+◌, ◌-◌, ◌*◌, ◌≤◌, ◌<◌}
use native.Mathlib.Omega.{arith}
use native.Mathlib.Nat.{mul-le-mul_right}
use native.Mathlib.Decide.{ℕ_discrete}
use borrow.Author.Tests.{not-true}
use lib.ListN.{length}
use Rattle.std.specs.Prelude.{Option, Some, None, IfSome}
use Rattle.bits.specs.Sums.{at, count}
use Rattle.table.specs.Limits.{max_shift}
use Rattle.table.specs.Desk.{Desk}
use Rattle.walk.specs.Walk.{Gone, Held, Whole}
use Rattle.walk.specs.Ends.{Ended}
use Rattle.walk.specs.Grow.{GrowsHere, Enough}
use Rattle.walk.proofs.Totals.{gone}
use Rattle.walk.proofs.Ends.{some_end}
use Rattle.walk.proofs.Grow.{every_bit_here}
use Rattle.plan.specs.declared.Plan.{Plan}
use Rattle.plan.specs.Plan.{way_of, Listed, AllHeld, EvenRows, EvenColumns, Planned, listed_shift}
use Rattle.plan.specs.Even.{Found}
use Rattle.plan.proofs.ListedLaws.{listed_same, listed_order, listed_count}
use Rattle.plan.proofs.EvenLaws.{even_grows, even_rows, even_columns}

-- a way that was found, with both lists
pub found_planned : (D : Desk) (rows columns : List ℕ) (n way : ℕ) (rises : List ℕ) → 1 ≤ n → AllHeld D rows n → Listed (Gone D) columns n → Found D rows columns n way rises
    → Planned D way n rows columns rises
found_planned D rows columns n way rises some held gone F = record {
  some = some;
  held = held;
  gone = gone;
  way_low = F.way_low;
  way_high = F.way_high;
  size = elim (ℕ_discrete way 1) [ yes e ↦ (F.by_rows e).size | no ne ↦ (F.by_columns (omega (arith, F.way_low, F.way_high))).size ];
  first = elim (ℕ_discrete way 1) [ yes e ↦ (F.by_rows e).first | no ne ↦ (F.by_columns (omega (arith, F.way_low, F.way_high))).first ];
  by_rows = λ e. even_rows D rows columns n rises some F.room (F.by_rows e);
  by_columns = λ e. even_columns D rows columns n rises some F.room (F.by_columns e);
}

-- so a plan that was found, if there is one
pub plan_found : (D : Desk) (rows columns : List ℕ) (n : ℕ) (r : Option Plan) → 1 ≤ n → AllHeld D rows n → Listed (Gone D) columns n
    → IfSome r (λ p. (p.rows ≡ rows) × Found D rows columns n (way_of p.way) p.rises)
    → IfSome r (λ p. Planned D (way_of p.way) n p.rows columns p.rises)
plan_found D rows columns n None some held gone F = tt
plan_found D rows columns n (Some p) some held gone F = rw F.0 (found_planned D rows columns n (way_of p.way) p.rises some held gone F.1)

module _ (D : Desk) (way n : ℕ) (rows columns rises : List ℕ) (P : Planned D way n rows columns rises) where
  open D use {k, m, bits, shift, present}

  abbrev t : ℕ → ℕ → ℕ
  t = listed_shift D rows columns

  -- one of the two ways
  by_way : {A : Type 0} → (EvenRows D rows columns n rises → A) → (EvenColumns D rows columns n rises → A) → A
  by_way r c = elim (ℕ_discrete way 1) [ yes e ↦ r (P.by_rows e) | no ne ↦ c (P.by_columns (omega (arith, P.way_low, P.way_high))) ]

  -- differences grow over what is listed
  listed_grows : (i i' b b' : ℕ) → i < i' → i' < n → b < b' → b' < n → t i b' + t i' b < t i' b' + t i b
  listed_grows i i' b b' ii li bb lb =
      by_way (λ R. even_grows t n (at rises) (λ b lb i li. R.even i b li lb) R.rising i i' b b' ii li bb lb)
      (λ C. omega (arith, even_grows (λ i b. t b i) n (at rises) (λ i li b lb. omega (arith, C.even i b li lb)) C.rising b b' i i' bb lb ii li))

  pub planned_grows : GrowsHere D
  planned_grows a a' b b' aa ha ha' bb gb gb' =
      let i = P.held.listed.every a ha in
      let i' = P.held.listed.every a' ha' in
      let c = P.gone.every b gb in
      let c' = P.gone.every b' gb' in
      let ii : i.0 < i'.0 = listed_order (Held D) rows n P.held.listed i.0 i'.0 i.1 (omega (arith, i.2, i'.2)) in
      let cc : c.0 < c'.0 = listed_order (Gone D) columns n P.gone c.0 c'.0 c.1 (omega (arith, c.2, c'.2)) in
      omega (
        arith,
        listed_grows i.0 i'.0 c.0 c'.0 ii i'.1 cc c'.1,
        ap₂ shift i.2 c.2,
        ap₂ shift i.2 c'.2,
        ap₂ shift i'.2 c.2,
        ap₂ shift i'.2 c'.2,
      )

  -- as many sources are missing as are listed, and as many parities at hand
  pub planned_gone : count k (gone D) ≡ n
  planned_gone =
      listed_count k (gone D) columns n
      (listed_same (Gone D) _ columns n (λ b h. (h.0, ap not h.1)) (λ b h. (h.0, not-true _ h.1)) P.gone)

  pub planned_held : count m (λ a. present (k + a)) ≡ n
  planned_held = listed_count m (λ a. present (k + a)) rows n P.held.listed

  pub planned_enough : Enough D
  planned_enough = omega (arith, planned_gone, planned_held)

  -- so the walk makes a step for each bit of each, and finishes all
  pub planned_ended : (E : Ended D (n * bits)) × Whole D E.end
  planned_ended =
      let E = (some_end D).1 in
      let w = every_bit_here D planned_grows planned_enough E.reached.run E.stuck in
      let counted : n * bits ≡ length E.reached.order = omega (arith, ap (λ x. bits * x) planned_gone, w.1) in
      (record { end = E.end; reached = record { order = E.reached.order; run = E.reached.run; counted = counted }; stuck = E.stuck }, w.0)

  -- no rise is above the largest shift
  pub planned_low : (i : ℕ) → i < n → at rises i ≤ max_shift
  planned_low i l = elim (ℕ_discrete n 1) [
    | yes e ↦ let z : i ≡ 0 = omega arith in omega (arith, ap (at rises) z, P.first)
    | no ne ↦ by_way (λ R. omega (arith, R.room i l, once (n - 1) (at rises i) (omega (arith, P.some))))
        (λ C. omega (arith, C.room (n - 1) (omega arith), once (n - 1) (at rises (n - 1)) (omega (arith, P.some)), up C.rising))
  ]
    where
      once : (d x : ℕ) → 1 ≤ d → x ≤ d * x
      once d x h = omega (arith, mul-le-mul_right x h)

      up : ((i i' : ℕ) → i < i' → i' < n → at rises i < at rises i') → at rises i ≤ at rises (n - 1)
      up rising = elim (ℕ_discrete i (n - 1)) [
        | yes e ↦ omega (arith, ap (at rises) e)
        | no ne ↦ omega (arith, rising i (n - 1) (omega arith) (omega arith))
      ]
