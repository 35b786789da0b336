-- Laws of the families' tables: differences grow, no entry is above the limit, there is one of each size, and it is what is written. Assumes nothing.
use mathlib.Core.Path.{◌≡◌, refl, sym, ap, ap₂, ◌∙◌, subst}
use mathlib.Core.List.{List}
use Prim.Native.Nat.{ℕ, zero, suc, ◌+◌, ◌-◌, ◌*◌, ◌/◌, ◌%◌, ◌≤◌, ◌<◌}
use native.Mathlib.Omega.{arith}
use native.Mathlib.Nat.{div-add-mod', mul-add-div_right, mul-add-mod_self_right, mod-eq_of_lt, div-eq_of_lt}
use native.Mathlib.Decide.{dec_lt}
use lib.ListN.{length}
use lib.Seq.{ext_get_or}
use Rattle.bits.specs.Sums.{at}
use Rattle.table.specs.Limits.{max_k, max_m, max_shift, max_family}
use Rattle.table.specs.Desk.{desk, entry, most, Grows}
use Rattle.table.specs.Family.{hankel_shift, family_shift}
use Rattle.table.specs.Table.{OfFamily}
use Rattle.table.specs.declared.Table.{Table}
use Rattle.table.proofs.CheckLaws.{Sized}
use Rattle.table.proofs.TableLaws.{at_past, entry_in, row_in, cell_in}
use Rattle.table.proofs.FamilyLaws.{family_hankel, hankel_largest, family_steps, family_low_shift}
use Rattle.table.proofs.PacketLaws.{most_same}
use Rattle.family.specs.Promise.{FamilyTable}
use Rattle.family.proofs.GrowLaws.{steps_grow}

-- the table of a family has growing differences
pub family_grows : (family k m : ℕ) (table : List ℕ) → 1 ≤ family → family ≤ max_family → FamilyTable family k m table → Grows (desk k m 0 table 0)
family_grows family k m table l h F = steps_grow k m (entry k table) (λ a b la lb. omega (
  arith,
  family_steps family k m l h a b,
  F.cell a b (omega arith) (omega arith),
  F.cell a (b + 1) (omega arith) lb,
  F.cell (a + 1) b la (omega arith),
  F.cell (a + 1) (b + 1) la lb,
))

-- the largest entry of a Hankel table
pub hankel_table_largest : (k m : ℕ) (table : List ℕ) → 1 ≤ k → 1 ≤ m → FamilyTable 2 k m table → most m (λ a. most k (entry k table a)) ≡ ((k + m) / 2 - 1) * ((k + m) / 2) / 2
hankel_table_largest k m table kl ml F =
    most_same m (λ a. most k (entry k table a)) (λ a. most k (λ b. hankel_shift k m (a + 1) (b + 1))) (λ a la. most_same k (entry k table a) (λ b. hankel_shift k m (a + 1) (b + 1))
    (λ b lb. F.cell a b la lb ∙ sym (family_hankel k m (a + 1) (b + 1))))
    ∙ hankel_largest k m kl ml

-- an entry by its place in the list
pub entry_place : (k m : ℕ) (table : List ℕ) (i : ℕ) → 0 < k → i < m * k → (i / k < m) × (i % k < k) × (entry k table (i / k) (i % k) ≡ at table i)
entry_place k m table i p l =
    let r = row_in i k m p l in
    (r.0, r.1, sym (entry_in k table (i / k) (i % k) r.1) ∙ ap (at table) (div-add-mod' i k))

-- one table only
pub family_once : (family k m : ℕ) (t t' : List ℕ) → FamilyTable family k m t → FamilyTable family k m t' → t ≡ t'
family_once family k m t t' F F' = ext_get_or 0 t t' (F.size ∙ sym F'.size) (λ i l. go k refl i (subst (λ n. i < n) F.size l))
  where
    none : (m : ℕ) → m * 0 ≡ 0
    none m = omega arith

    go : (j : ℕ) → j ≡ k → (i : ℕ) → i < m * k → at t i ≡ at t' i
    go zero e i l = absurd (omega (arith, none m, ap (λ n. m * n) e))
    go (suc j) e i l =
        let p : 0 < k = omega arith in
        let a = entry_place k m t i p l in
        let b = entry_place k m t' i p l in
        sym a.2 ∙ F.cell (i / k) (i % k) a.0 a.1 ∙ sym (F'.cell (i / k) (i % k) a.0 a.1) ∙ b.2

-- no entry is above the limit
pub family_low : (family k m : ℕ) (table : List ℕ) → 1 ≤ family → family ≤ max_family → Sized k m → FamilyTable family k m table → (i : ℕ) → at table i ≤ max_shift
family_low family k m table l h z F i = elim (dec_lt i (m * k)) [
  | no n ↦ omega (arith, at_past table i (omega (arith, F.size)))
  | yes p ↦
      let e = entry_place k m table i z.k_low p in
      omega (
        arith,
        e.2,
        F.cell (i / k) (i % k) e.0 e.1,
        family_low_shift family k m l h z.k_high z.m_high (i / k + 1) (i % k + 1) (omega arith) (omega (arith, e.0)) (omega arith) (omega (arith, e.1)),
      )
]

-- place a·k + b is in row a and column b
row_of : (k a b : ℕ) → 1 ≤ k → b < k → (a * k + b) / k ≡ a
row_of k a b p l = mul-add-div_right p a b ∙ omega (arith, div-eq_of_lt l)

column_of : (k a b : ℕ) → b < k → (a * k + b) % k ≡ b
column_of k a b l = mul-add-mod_self_right a k b ∙ mod-eq_of_lt l

-- the cells of a family's table, written row by row, are that table
pub family_written : (family k m : ℕ) (t : Table) (before out : List ℕ) → 1 ≤ k → k ≤ max_k → m ≤ max_m → length before ≡ m * k → length out ≡ length before → OfFamily family k m t
    → ((i : ℕ) → i < length before → at out i ≡ at t.shifts (i / t.k * max_k + i % t.k)) → FamilyTable family k m out
family_written family k m t before out kl kh mh room same F h = record {
  size = same ∙ room;
  cell = λ a b la lb.
      let i = a * k + b in
      let here : at out i ≡ at t.shifts (a * max_k + b) =
      h i (omega (arith, cell_in k m a b la lb)) ∙ ap (λ k. at t.shifts (i / k * max_k + i % k)) F.k_is
      ∙ ap₂ (λ x y. at t.shifts (x * max_k + y)) (row_of k a b kl lb) (column_of k a b lb) in
      let r : (a * max_k + b) / max_k ≡ a = omega arith in
      let c : (a * max_k + b) % max_k ≡ b = omega arith in
      sym (entry_in k out a b lb) ∙ here ∙ F.cells_are (a * max_k + b) (omega arith) ∙ ap₂ (λ x y. family_shift family k m (x + 1) (y + 1)) r c;
}
