-- Laws of rows in words: one word set, and a row set word by word. Assumes nothing.
use Rattle.std.proofs.Common.{◌≡◌, ℕ, ◌+◌, ◌*◌, ◌/◌, ◌%◌, ◌<◌, ◌≤◌, ◌≢◌, List, set, sym, refl, ap, ◌∙◌, ap₂, arith, get_or-set_other, get_or-set_same, le-ltb, lt-ltb}
use native.Mathlib.Decide.{dec_lt, ℕ_discrete}
use lib.Bits.{bit_xor}
use Rattle.bits.specs.Sums.{at}
use Rattle.bits.specs.Bits.{bit}
use Rattle.bits.proofs.SumLaws.{one_at_same, one_at_other}
use Rattle.bits.proofs.BitLaws.{bit_lt, bit-xor}
use Rattle.rows.specs.Rows.{row_bits, row_words, row_in, HasRow, Became, AddedTo}

-- a row's bits are bits
pub row_lt : (rows : List ℕ) (a p : ℕ) → row_in rows a p < 2
unfolding row_in
row_lt rows a p = elim (dec_lt p row_bits) [
  | yes l ↦ rw (lt-ltb p row_bits l) (bit_lt _ _)
  | no l ↦ rw (le-ltb p row_bits (omega arith)) (omega arith)
]

-- past its end a row has none
pub row_past : (rows : List ℕ) (a p : ℕ) → row_bits ≤ p → row_in rows a p ≡ 0
unfolding row_in
row_past rows a p l = rw (le-ltb p row_bits l)

-- bit t of word c
pub row_at : (rows : List ℕ) (a c t : ℕ) → c < row_words → t < 64 → row_in rows a (c * 64 + t) ≡ bit (at rows (a * row_words + c)) t
unfolding row_in
row_at rows a c t lc lt =
    let d : (c * 64 + t) / 64 ≡ c = omega arith in
    let m : (c * 64 + t) % 64 ≡ t = omega arith in
    rw (lt-ltb (c * 64 + t) row_bits (omega arith)) (ap₂ (λ x z. bit (at rows (a * row_words + x)) z) d m)

row_of : (rows : List ℕ) (a p : ℕ) → p < row_bits → row_in rows a p ≡ bit (at rows (a * row_words + p / 64)) (p % 64)
unfolding row_in
row_of rows a p l = rw (lt-ltb p row_bits l)

-- row a has the bits f below word n, and all else is as it was
pub record SetTo (a : ℕ) (f : ℕ → ℕ) (n : ℕ) (rows rows' : List ℕ) : Type 0 where
  pub done : (p : ℕ) → p < n * 64 → row_in rows' a p ≡ f p
  pub rest : (d p : ℕ) → (a ≡ d → n * 64 ≤ p) → row_in rows' d p ≡ row_in rows d p

module _ (a : ℕ) (f : ℕ → ℕ) (rows : List ℕ) where
  pub set_none : SetTo a f 0 rows rows
  set_none = record { done = λ p l. absurd (omega arith); rest = λ d p g. refl }

  -- one word more
  pub set_more : (rows' : List ℕ) (c x : ℕ) → HasRow rows' a → c < row_words → SetTo a f c rows rows' → ((t : ℕ) → t < 64 → bit x t ≡ f (c * 64 + t))
      → SetTo a f (c + 1) rows (set rows' (a * row_words + c) x)
  set_more rows' c x room lc h made = record {
    done = λ p l. elim (ℕ_discrete (p / 64) c) [
      | yes ep ↦
          let i : a * row_words + c ≡ a * row_words + p / 64 = omega arith in
          let q : c * 64 + p % 64 ≡ p = omega arith in
          row_of _ a p (omega arith)
          ∙ ap (λ i. bit (at (set rows' i x) (a * row_words + p / 64)) (p % 64)) i
          ∙ ap (λ z. bit z (p % 64)) (get_or-set_same rows' (a * row_words + p / 64) x 0 (omega arith)) ∙ made (p % 64) (omega arith) ∙ ap f q
      | no ne ↦ same a p (λ e. omega arith) ∙ h.done p (omega arith)
    ];
    rest = λ d p g. elim (dec_lt p row_bits) [
      | yes l ↦ same d p (λ e. let ad : a ≡ d = omega arith in omega (arith, g ad)) ∙ h.rest d p (λ ad. omega (arith, g ad))
      | no l ↦ row_past _ d p (omega arith) ∙ sym (row_past rows d p (omega arith))
    ];
  }
    where
      same : (d p : ℕ) → d * row_words + p / 64 ≢ a * row_words + c → row_in (set rows' (a * row_words + c) x) d p ≡ row_in rows' d p
      same d p ne = elim (dec_lt p row_bits) [
        | yes l ↦ row_of _ d p l ∙ ap (λ z. bit z (p % 64)) (get_or-set_other rows' (a * row_words + c) (d * row_words + p / 64) x 0 ne) ∙ sym (row_of rows' d p l)
        | no l ↦ row_past _ d p (omega arith) ∙ sym (row_past rows' d p (omega arith))
      ]

  -- all words
  pub set_all : (rows' : List ℕ) (n : ℕ) → row_words ≤ n → SetTo a f n rows rows' → Became a f rows rows'
  set_all rows' n l h = record { here = λ p lp. h.done p (omega arith); others = λ c p ne. h.rest c p (λ e. absurd (ne e)) }

-- a row that became itself and f was added to
pub became_added : (a : ℕ) (f : ℕ → ℕ) (rows rows' : List ℕ) → Became a (λ p. (row_in rows a p + f p) % 2) rows rows' → AddedTo a f rows rows'
became_added a f rows rows' h c p lp = elim (ℕ_discrete a c) [
  | yes e ↦ rw (← e, one_at_same a a refl) (h.here p lp ∙ ap (λ x. x % 2) (omega arith))
  | no ne ↦ h.others c p ne ∙ rw (one_at_other a c ne) (omega (arith, row_lt rows c p))
]

-- of a row that is added to, and of the others
module _ (a : ℕ) (f : ℕ → ℕ) (rows rows' : List ℕ) (h : AddedTo a f rows rows') where
  pub added_here : (p : ℕ) → p < row_bits → row_in rows' a p ≡ (row_in rows a p + f p) % 2
  added_here p lp = h a p lp ∙ rw (one_at_same a a refl) (ap (λ x. x % 2) (omega arith))

  pub added_other : (c p : ℕ) → a ≢ c → row_in rows' c p ≡ row_in rows c p
  added_other c p ne = elim (dec_lt p row_bits) [
    | yes lp ↦ h c p lp ∙ rw (one_at_other a c ne) (omega (arith, row_lt rows c p))
    | no l ↦ row_past rows' c p (omega arith) ∙ sym (row_past rows c p (omega arith))
  ]

-- row a, with f added word by word
module _ (a : ℕ) (f : ℕ → ℕ) (rows : List ℕ) where
  -- row a with f added below word n, and all else as it was
  abbrev pub AddedBelow : ℕ → List ℕ → Type 0
  AddedBelow n rows' = SetTo a (λ p. (row_in rows a p + f p) % 2) n rows rows'

  pub add_more : (rows' : List ℕ) (c y : ℕ) → HasRow rows' a → c < row_words → AddedBelow c rows' → ((t : ℕ) → t < 64 → bit y t ≡ f (c * 64 + t))
      → AddedBelow (c + 1) (set rows' (a * row_words + c) (bit_xor (at rows' (a * row_words + c)) y))
  add_more rows' c y room lc h made = set_more a _ rows rows' c _ room lc h (λ t lt.
      bit-xor (at rows' (a * row_words + c)) y t
      ∙ ap₂ (λ u v. (u + v) % 2) (sym (row_at rows' a c t lc lt) ∙ h.rest a (c * 64 + t) (λ _. omega arith)) (made t lt))

  -- a word of another row is still as it was
  pub other_word : (rows' : List ℕ) (n b c t : ℕ) → a ≢ b → c < row_words → t < 64 → AddedBelow n rows' → bit (at rows' (b * row_words + c)) t ≡ row_in rows b (c * 64 + t)
  other_word rows' n b c t ne lc lt h = sym (row_at rows' b c t lc lt) ∙ h.rest b (c * 64 + t) (λ e. absurd (ne e))

  pub add_all : (rows' : List ℕ) (n : ℕ) → row_words ≤ n → AddedBelow n rows' → AddedTo a f rows rows'
  add_all rows' n l h = became_added a f rows rows' (set_all a _ rows rows' n l h)
