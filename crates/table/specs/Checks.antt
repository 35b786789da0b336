-- The list of numbers, in order of checking: a check is its number and what it refuses.
use Rattle.std.specs.Prelude.{◌≡◌, ◌⊎◌, true, List, [], ◌∷◌, ◌++◌, ℕ, ◌+◌, ◌*◌, ◌≤◌, ◌<◌, length}
use Rattle.bits.specs.Sums.{at, count}
use Rattle.table.specs.Limits.{max_k, max_m, max_length, max_shift, max_family, max_stripes}
use Rattle.table.specs.Desk.{mark, source_bits}

abbrev pub Checks : Type 1
Checks = List (ℕ × Type 0)

-- n is the number of the first check that refuses, or 0
abbrev pub Checked : Checks → ℕ → Type 0
Checked [] n = n ≡ 0
Checked (c ∷ cs) n = (c.1 × (n ≡ c.0)) ⊎ ((c.1 → ⊥) × Checked cs n)

-- The list, in order of checking: first the class sheet's own number, then those of the code, with 36, which only the writer of blocks gives, before 4; then those of a block.
-- A call makes the checks that it has the input for.
abbrev pub the_list : List ℕ
the_list = 18 ∷ 1 ∷ 19 ∷ 2 ∷ 3 ∷ 25 ∷ 6 ∷ 7 ∷ 17 ∷ 36 ∷ 4 ∷ 5 ∷ 22 ∷ 23 ∷ 24 ∷ 8 ∷ 9 ∷ 10 ∷ 11 ∷ 12 ∷ 13 ∷ 14 ∷ 15 ∷ 20 ∷ 21 ∷ 16 ∷ []

-- numbers that are part of a list, in its order; the same may stand more than once, one right after the other
abbrev pub InOrder : List ℕ → List ℕ → Type 0
InOrder [] list = Unit
InOrder (n ∷ ns) [] = ⊥
InOrder (n ∷ ns) (x ∷ list) = ((n ≡ x) × InOrder ns (x ∷ list)) ⊎ InOrder (n ∷ ns) list

-- the numbers of checks
abbrev pub numbers_of : Checks → List ℕ
numbers_of [] = []
numbers_of (c ∷ cs) = c.0 ∷ numbers_of cs

-- the checks are made in the order of the list
abbrev pub Listed : Checks → Type 0
Listed cs = InOrder (numbers_of cs) the_list

-- a check of number n refuses
abbrev pub Refuses : Checks → ℕ → Type 0
Refuses [] n = ⊥
Refuses (c ∷ cs) n = (c.1 × (n ≡ c.0)) ⊎ Refuses cs n

-- An answer to these checks: its number; refused, what holds then; else what was asked for.
pub record Answered (checks : Checks) (number : ℕ) (Refused Done : Type 0) : Type 0 where
  pub numbered : Checked checks number
  pub refused : (number ≡ 0 → ⊥) → Refused
  pub done : number ≡ 0 → Done

-- n is 1 exactly when P holds, else 0
abbrev pub Flag : Type 0 → ℕ → Type 0
Flag P n = (P × (n ≡ 1)) ⊎ ((P → ⊥) × (n ≡ 0))

-- n is not one of 1 to most
abbrev pub Outside : ℕ → ℕ → Type 0
Outside most n = (n < 1) ⊎ (most < n)

-- 1: k or m is 0 or above its limit
abbrev pub size_checks : ℕ → ℕ → Checks
size_checks k m = (1, Outside max_k k ⊎ Outside max_m m) ∷ []

-- 19: the family is none of those that there are
abbrev pub family_number_checks : ℕ → Checks
family_number_checks family = (19, Outside max_family family) ∷ []

-- 2: the length is 0 or above its limit
abbrev pub length_checks : ℕ → Checks
length_checks l = (2, Outside max_length l) ∷ []

-- 3: the table is not m·k bytes, or an entry is above the largest shift
abbrev pub table_checks : ℕ → ℕ → List ℕ → Checks
table_checks k m table = (3, (length table ≡ m * k → ⊥) ⊎ ((i : ℕ) × (max_shift < at table i))) ∷ []

-- 25: the stripes are none or above their limit
abbrev pub stripes_checks : ℕ → Checks
stripes_checks stripes = (25, Outside max_stripes stripes) ∷ []

-- 6: a number, counted from 1, is none of n packets or sources
abbrev pub number_checks : ℕ → ℕ → Checks
number_checks n i = (6, Outside n i) ∷ []

-- a mark above the n packets is set
abbrev pub MarkAbove : ℕ → ℕ → Type 0
MarkAbove n marks = (i : ℕ) × (n ≤ i) × (mark marks i ≡ true)

-- how many packets a call asks for
abbrev pub asked : ℕ → ℕ
asked k = k

-- 7: the marks are not exactly k
abbrev pub count_checks : ℕ → ℕ → ℕ → Checks
count_checks k m marks = (7, count (k + m) (mark marks) ≡ asked k → ⊥) ∷ []

-- 6: a mark above n is set; 7
abbrev pub marks_checks : ℕ → ℕ → ℕ → Checks
marks_checks k m marks = (6, MarkAbove (k + m) marks) ∷ count_checks k m marks

-- 6: a mark above n is set, or the number asked for, from 1, is none of `among`; 7
abbrev pub asked_checks : ℕ → ℕ → ℕ → ℕ → ℕ → Checks
asked_checks k m marks among i = (6, MarkAbove (k + m) marks ⊎ Outside among i) ∷ count_checks k m marks

-- the progress of source c is above the bits of a source, or not 0 where the source is present or there is none
abbrev pub Astray : ℕ → ℕ → ℕ → List ℕ → ℕ → Type 0
Astray k l marks progress c =
    (source_bits l < at progress c) ⊎ ((at progress c ≡ 0 → ⊥) × ((k ≤ c) ⊎ (mark marks c ≡ true)))

-- 17: progress above the bits of a source, or not zero for a source present or a number above k
abbrev pub progress_checks : ℕ → ℕ → ℕ → List ℕ → Checks
progress_checks k l marks progress = (17, (c : ℕ) × (c < max_k) × Astray k l marks progress c) ∷ []

-- 4: an input buffer has not the exact length n; 5: an output buffer has not
abbrev pub input_checks : ℕ → List ℕ → Checks
input_checks n input = (4, length input ≡ n → ⊥) ∷ []

abbrev pub output_checks : ℕ → List ℕ → Checks
output_checks n output = (5, length output ≡ n → ⊥) ∷ []

-- 1 2 3
abbrev pub shape_checks : ℕ → ℕ → ℕ → List ℕ → Checks
shape_checks k m l table = size_checks k m ++ length_checks l ++ table_checks k m table

-- 1 2 3 6 7
abbrev pub marked_checks : ℕ → ℕ → ℕ → List ℕ → ℕ → Checks
marked_checks k m l table marks = shape_checks k m l table ++ marks_checks k m marks
