-- Laws of rows in which nothing is set: all their words, put into one by OR, are 0. Assumes nothing.
use Rattle.std.proofs.Common.{◌≡◌, ℕ, ◌+◌, ◌*◌, ◌/◌, ◌%◌, ◌^◌, ◌<◌, ◌≤◌, eqb, List, sym, ap, ◌∙◌, subst, ap₂, arith, eqb-true}
use native.Mathlib.Decide.{dec_lt, ℕ_discrete}
use borrow.Author.Tests.{eqb-false}
use lib.Bits.{bit_or, and_le_l, and_le_r, or_add_and, or_zero_l}
use Rattle.bits.specs.Sums.{at}
use Rattle.bits.specs.Bits.{bit, Tells}
use Rattle.bits.proofs.BitLaws.{bit_high, bit_zero, zero_ext}
use Rattle.rows.specs.Rows.{row_bits, row_words, row_in}
use Rattle.rows.proofs.RowLaws.{row_at, row_past}

-- a word of a clear row is 0
word_clear : (rows : List ℕ) (a c : ℕ) → c < row_words → at rows (a * row_words + c) < 2 ^ 64 → ((p : ℕ) → row_in rows a p ≡ 0) → at rows (a * row_words + c) ≡ 0
word_clear rows a c lc fits clear = zero_ext (at rows (a * row_words + c)) (λ t. elim (dec_lt t 64) [
  | yes l ↦ sym (row_at rows a c t lc l) ∙ clear (c * 64 + t)
  | no l ↦ bit_high (at rows (a * row_words + c)) 64 t fits (omega arith)
])

-- and where all words are 0 a row is clear
row_clear : (rows : List ℕ) (a p : ℕ) → ((c : ℕ) → c < row_words → at rows (a * row_words + c) ≡ 0) → row_in rows a p ≡ 0
row_clear rows a p none = elim (dec_lt p row_bits) [
  | yes l ↦
      let place : p ≡ p / 64 * 64 + p % 64 = omega arith in
      ap (row_in rows a) place ∙ row_at rows a (p / 64) (p % 64) (omega arith) (omega arith) ∙ ap (λ (x : ℕ). bit x (p % 64)) (none (p / 64) (omega arith)) ∙ bit_zero (p % 64)
  | no l ↦ row_past rows a p (omega arith)
]

module _ (rows : List ℕ) (a n : ℕ) where
  abbrev pub ClearRows : Type 0
  ClearRows = (c p : ℕ) → a ≤ c → c < a + n → row_in rows c p ≡ 0

  -- the words of the n rows from row a on, below word i, were put into x
  pub record Gathered (i x : ℕ) : Type 0 where
    pub clear : x ≡ 0 → (j : ℕ) → a * row_words ≤ j → j < i → at rows j ≡ 0
    pub none : ClearRows → x ≡ 0

  -- one word more
  pub gathered_more : (i x : ℕ) → a * row_words ≤ i → i < (a + n) * row_words → at rows i < 2 ^ 64 → Gathered i x → Gathered (i + 1) (bit_or x (at rows i))
  gathered_more i x from below fits h =
      let y = at rows i in
      record {
        clear = λ e j l m.
            let both : bit_or x y + _ ≡ x + y = or_add_and x y in
            elim (ℕ_discrete j i) [
              | yes q ↦ ap (at rows) q ∙ omega (arith, both, e, and_le_l x y)
              | no q ↦ h.clear (omega (arith, both, e, and_le_r x y)) j l (omega arith)
            ];
        none = λ cl.
            let place : i / 8 * row_words + i % 8 ≡ i = omega arith in
            let fits-there = subst (λ j. at rows j < 2 ^ 64) (sym place) fits in
            let word : y ≡ 0 = ap (at rows) (sym place) ∙ word_clear rows (i / 8) (i % 8) (omega arith) fits-there (λ p. cl (i / 8) p (omega arith) (omega arith)) in
            ap₂ bit_or (h.none cl) word ∙ or_zero_l 0;
      }

  pub gathered_all : (i x : ℕ) → (a + n) * row_words ≤ i → Gathered i x → Tells (eqb x 0) ClearRows
  gathered_all i x l h = record {
    so = λ e c p lc lp. row_clear rows c p (λ w lw. h.clear (eqb-true x 0 e) (c * row_words + w) (omega arith) (omega arith));
    not_so = λ e cl. eqb-false x 0 e (h.none cl);
  }
