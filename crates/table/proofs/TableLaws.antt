-- Laws of tables: their entries, laid out eight to a row, and their limits. Assumes nothing.
use mathlib.Core.Path.{◌≡◌, refl, sym, ap, ◌∙◌, subst, fun_ext}
use mathlib.Core.List.{List, [], ◌∷◌}
use mathlib.Core.Logic.{◌⊎◌, inl, inr, ⊎_elim}
use mathlib.Core.Bool.{Bool, true, false, and-false}
use Prim.Native.Nat.{ℕ, zero, suc, ◌+◌, ◌*◌, ◌/◌, ◌%◌, ◌≤◌, ◌<◌}
use native.Mathlib.Omega.{arith}
use native.Mathlib.Nat.{mul-le-mul, mul-le-mul_right, div-lt_iff_lt-mul, mod-lt}
use native.Mathlib.Decide.{ℕ_discrete, dec_lt, dec_le}
use borrow.Author.Tests.{lt-ltb, le-ltb}
use lib.ListN.{length, replicate, set, get_or-eq_default}
use lib.Seq.{get_or-set_same, get_or-set_other}
use borrow.Author.Count.{below_more}
use Rattle.bits.specs.Sums.{at}
use Rattle.table.specs.Limits.{max_k, max_m, max_shift, cells}
use Rattle.table.specs.Desk.{entry, mark, source_bits}
use Rattle.table.specs.Table.{RowLaid, laid_out, room_of}
use Rattle.table.specs.Checks.{Astray}

-- past its end a list has noughts
pub at_past : (xs : List ℕ) (i : ℕ) → length xs ≤ i → at xs i ≡ 0
at_past xs i h = get_or-eq_default xs 0 h

pub noughts-at : (n i : ℕ) → at (replicate n 0) i ≡ 0
noughts-at zero i = refl
noughts-at (suc n) zero = refl
noughts-at (suc n) (suc i) = noughts-at n i

-- values that are f's below place i are so below i + 1 once f's stands at place i
pub filled_more : (f : ℕ → ℕ) (xs : List ℕ) (i v : ℕ) → i < length xs → ((j : ℕ) → j < i → at xs j ≡ f j) → v ≡ f i → (j : ℕ) → j < i + 1 → at (set xs i v) j ≡ f j
filled_more f xs i v l below here =
    below_more (λ j. at (set xs i v) j ≡ f j) i (λ j q. get_or-set_other xs i j v 0 (omega arith) ∙ below j q) (get_or-set_same xs i v 0 l ∙ here)

-- what holds of the entries up to the end holds of all
pub low_all : (xs : List ℕ) (i : ℕ) → length xs ≤ i → ((j : ℕ) → j < i → at xs j ≤ max_shift) → (j : ℕ) → at xs j ≤ max_shift
low_all xs i l h j = elim (dec_lt j i) [ yes q ↦ h j q | no q ↦ omega (arith, at_past xs j (omega arith)) ]

-- m rows of k columns are cells of the sheet
pub small_product : (m k : ℕ) → m ≤ max_m → k ≤ max_k → m * k ≤ cells
small_product m k p q = mul-le-mul p q

-- the entries of a table, k to a row or laid out, inside the columns and past them
module _ (k : ℕ) (xs : List ℕ) (a b : ℕ) where
  pub entry_in : b < k → at xs (a * k + b) ≡ entry k xs a b
  unfolding entry
  entry_in h = rw (lt-ltb b k h)

  pub entry-out : k ≤ b → 0 ≡ entry k xs a b
  unfolding entry
  entry-out h = rw (le-ltb b k h)

  pub laid_in : b < k → at xs (a * max_k + b) ≡ laid_out k xs a b
  unfolding laid_out
  laid_in h = rw (lt-ltb b k h)

  pub laid_past : k ≤ b → 0 ≡ laid_out k xs a b
  unfolding laid_out
  laid_past h = rw (le-ltb b k h)

-- a cell below row m is one of m·k
pub cell_in : (k m a b : ℕ) → a < m → b < k → a * k + b < m * k
cell_in k m a b p q = omega (arith, mul-le-mul_right k p)

-- a row past the last has noughts
pub entry_below : (k m : ℕ) (table : List ℕ) (a b : ℕ) → length table ≡ m * k → m ≤ a → 0 ≡ entry k table a b
entry_below k m table a b e h = elim (dec_lt b k) [
  | yes q ↦ sym (at_past table (a * k + b) (omega (arith, mul-le-mul_right k h))) ∙ entry_in k table a b q
  | no q ↦ entry-out k table a b (omega arith)
]

-- the shifts are the table's entries, cell by cell
abbrev pub CellsAre : ℕ → List ℕ → List ℕ → Type 0
CellsAre k table shifts = (i : ℕ) → i < cells → at shifts i ≡ entry k table (i / max_k) (i % max_k)

-- entry after entry of a row, and row after row: the rows above are the table's, and those below hold noughts
module _ (k : ℕ) (table : List ℕ) (a : ℕ) where
  pub row_laid_none : (shifts : List ℕ) → RowLaid k table a 0 shifts shifts
  row_laid_none shifts = record { laid = λ b l. absurd (omega arith); before = λ i _. refl; after = λ i _. refl }

  pub row_laid_more : (n : ℕ) (shifts shifts' : List ℕ) → a * max_k + n < length shifts' → RowLaid k table a n shifts shifts'
      → RowLaid k table a (n + 1) shifts (set shifts' (a * max_k + n) (at table (a * k + n)))
  row_laid_more n shifts shifts' room R =
      let v = at table (a * k + n) in
      record {
        laid = λ b l. elim (ℕ_discrete n b) [
          | yes e ↦ subst (λ c. at (set shifts' (a * max_k + n) v) (a * max_k + c) ≡ at table (a * k + c)) e (get_or-set_same shifts' (a * max_k + n) v 0 room)
          | no ne ↦ get_or-set_other shifts' (a * max_k + n) (a * max_k + b) v 0 (omega arith) ∙ R.laid b (omega arith)
        ];
        before = λ i l. get_or-set_other shifts' (a * max_k + n) i v 0 (omega arith) ∙ R.before i l;
        after = λ i l. get_or-set_other shifts' (a * max_k + n) i v 0 (omega arith) ∙ R.after i (omega arith);
      }

  module _ (shifts shifts' : List ℕ) (low : k ≤ max_k) (R : RowLaid k table a k shifts shifts') (below : (i : ℕ) → a * max_k ≤ i → at shifts i ≡ 0) where
    pub rows_laid_more : ((i : ℕ) → i < a * max_k → at shifts i ≡ entry k table (i / max_k) (i % max_k))
        → (i : ℕ) → i < (a + 1) * max_k → at shifts' i ≡ entry k table (i / max_k) (i % max_k)
    rows_laid_more above i l = elim (dec_lt i (a * max_k)) [
      | yes q ↦ R.before i q ∙ above i q
      | no q ↦
          let ea : a ≡ i / max_k = omega arith in
          let ei : a * max_k + i % max_k ≡ i = omega arith in
          elim (dec_lt (i % max_k) k) [
            | yes inside ↦ ap (at shifts') (sym ei) ∙ R.laid (i % max_k) inside ∙ entry_in k table a (i % max_k) inside ∙ ap (λ c. entry k table c (i % max_k)) ea
            | no past ↦ R.after i (omega arith) ∙ below i (omega arith) ∙ entry-out k table (i / max_k) (i % max_k) (omega arith)
          ]
    ]

    pub rows_laid_below : (i : ℕ) → (a + 1) * max_k ≤ i → at shifts' i ≡ 0
    rows_laid_below i l = R.after i (omega arith) ∙ below i (omega arith)

-- and so they are laid out
pub laid_entries : (k m : ℕ) (table shifts : List ℕ) → k ≤ max_k → m ≤ max_m → length table ≡ m * k → length shifts ≡ cells → CellsAre k table shifts → laid_out k shifts ≡ entry k table
laid_entries k m table shifts kh mh size all h = fun_ext λ a. fun_ext λ b. elim (dec_lt b k) [
  | no q ↦ sym (laid_past k shifts a b (omega arith)) ∙ entry-out k table a b (omega arith)
  | yes q ↦ sym (laid_in k shifts a b q) ∙ elim (dec_lt a max_m) [
    | no p ↦ at_past shifts (a * max_k + b) (omega arith) ∙ entry_below k m table a b size (omega arith)
    | yes p ↦
        let ea : (a * max_k + b) / max_k ≡ a = omega arith in
        let eb : (a * max_k + b) % max_k ≡ b = omega arith in
        h (a * max_k + b) (omega arith) ∙ rw (ea, eb)
  ]
]

-- the progress that a source may have
pub room_outside : (k l marks c : ℕ) → k ≤ c → 0 ≡ room_of k l marks c
unfolding room_of
room_outside k l marks c h = rw (le-ltb c k h)

pub room-present : (k l marks c : ℕ) → mark marks c ≡ true → 0 ≡ room_of k l marks c
unfolding room_of
room-present k l marks c e = rw (e, and-false)

pub room-missing : (k l marks c : ℕ) → c < k → mark marks c ≡ false → source_bits l ≡ room_of k l marks c
unfolding room_of
room-missing k l marks c h e = rw (lt-ltb c k h, e)

-- a source has no room, or that for its bits
room_none : (k l marks c : ℕ) → (k ≤ c) ⊎ (mark marks c ≡ true) → 0 ≡ room_of k l marks c
room_none k l marks c (inl h) = room_outside k l marks c h
room_none k l marks c (inr e) = room-present k l marks c e

none_or_bits : (k l marks c : ℕ) → ((k ≤ c) ⊎ (mark marks c ≡ true)) ⊎ (source_bits l ≡ room_of k l marks c)
none_or_bits k l marks c = elim (dec_lt c k) [ yes q ↦ go (mark marks c) refl q | no n ↦ inl (inl (omega arith)) ]
  where
    go : (v : Bool) → mark marks c ≡ v → c < k → ((k ≤ c) ⊎ (mark marks c ≡ true)) ⊎ (source_bits l ≡ room_of k l marks c)
    go true e q = inl (inr e)
    go false e q = inr (room-missing k l marks c q e)

-- progress past its room is astray, and within it is not
pub past_room : (k l marks : ℕ) (g : List ℕ) (c : ℕ) → room_of k l marks c < at g c → Astray k l marks g c
past_room k l marks g c h = ⊎_elim (λ n. inr ((λ z. omega arith), n)) (λ e. inl (omega arith)) (none_or_bits k l marks c)

pub within_room : (k l marks : ℕ) (g : List ℕ) (c : ℕ) → at g c ≤ room_of k l marks c → Astray k l marks g c → ⊥
within_room k l marks g c h (inl x) = ⊎_elim (λ n. omega (arith, room_none k l marks c n)) (λ e. omega arith) (none_or_bits k l marks c)
within_room k l marks g c h (inr x) = x.0 (omega (arith, room_none k l marks c x.1))

-- the entries are not all low: one is above
pub not_low : (t : List ℕ) → (((i : ℕ) → at t i ≤ max_shift) → ⊥) → (i : ℕ) × (max_shift < at t i)
not_low [] h = absurd (h (λ i. omega (arith, at_past [] i (omega arith))))
not_low (x ∷ xs) h = elim (dec_le x max_shift) [
  | no n ↦ (0, omega arith)
  | yes l ↦ let r = not_low xs (λ f. h (both f l)) in (suc r.0, r.1)
]
  where
    both : ((i : ℕ) → at xs i ≤ max_shift) → x ≤ max_shift → (i : ℕ) → at (x ∷ xs) i ≤ max_shift
    both f l zero = l
    both f l (suc i) = f i

-- cells that are the entries of a low table are low
pub laid_low : (k : ℕ) (table shifts : List ℕ) → length shifts ≡ cells → ((i : ℕ) → at table i ≤ max_shift) → CellsAre k table shifts → (i : ℕ) → at shifts i ≤ max_shift
laid_low k table shifts all low h i = elim (dec_lt i cells) [
  | no n ↦ omega (arith, at_past shifts i (omega arith))
  | yes l ↦ elim (dec_lt (i % max_k) k) [
    | yes q ↦ omega (arith, h i l, low (i / max_k * k + i % max_k), entry_in k table (i / max_k) (i % max_k) q)
    | no n ↦ omega (arith, h i l, entry-out k table (i / max_k) (i % max_k) (omega arith))
  ]
]

-- place i of m·k cells is in a row below m, and in a column
pub row_in : (i k m : ℕ) → 1 ≤ k → i < m * k → (i / k < m) × (i % k < k)
row_in i k m p h = ((div-lt_iff_lt-mul {k = k} {x = i} {y = m} p).1 h, mod-lt i p)
