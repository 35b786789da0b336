-- Laws of bytes added into a row, from some word on or shifted up by part of a word, and of one bit. Assumes nothing.
use Rattle.std.proofs.Common.{◌≡◌, ℕ, ◌+◌, ◌-◌, ◌*◌, ◌/◌, ◌%◌, ◌^◌, ◌<◌, ◌≤◌, ◌≢◌, List, length, drop, set, sym, refl, ap, ◌∙◌, subst, arith, length-set, shr_lt, le-ltb, lt-ltb}
use native.Mathlib.Nat.{zero-div}
use native.Mathlib.Decide.{dec_lt, ℕ_discrete}
use lib.Bits.{bit_or, bit_xor}
use Rattle.bits.specs.Sums.{at, one_at}
use Rattle.bits.specs.Bits.{bit, bit_at, slice, up}
use Rattle.bits.proofs.SumLaws.{one_at_same, one_at_other}
use Rattle.bits.proofs.BitLaws.{bit_low, bit_high, bit_shr, bit_at_lt, bit_at_past, bit_at-take, bit_at-drop}
use Rattle.bits.proofs.UpLaws.{up_low, up_from, up_high}
use Rattle.rows.specs.Rows.{row_bits, row_words, HasRow, AddedTo}
use Rattle.rows.proofs.RowLaws.{row_lt, AddedBelow, set_none, add_more, add_all, became_added}
use Rattle.rows.proofs.ShiftLaws.{word_shl, Carries, carries_none, word_raised, carries_more}
use Rattle.rows.proofs.WordLaws.{or_crossing}

-- ---- bits f in some words of a row only

module _ (a : ℕ) (f : ℕ → ℕ) (rows : List ℕ) where
  -- below word n f has none: there the row is as it should be
  pub add_from : (n : ℕ) → ((p : ℕ) → p < n * 64 → f p ≡ 0) → AddedBelow a f rows n rows
  add_from n none = record { done = λ p l. sym (rw (none p l) (omega (arith, row_lt rows a p))); rest = λ d p g. refl }

  -- from word n on f has none: all of it is added
  pub add_end : (rows' : List ℕ) (n : ℕ) → ((p : ℕ) → n * 64 ≤ p → f p ≡ 0) → AddedBelow a f rows n rows' → AddedTo a f rows rows'
  add_end rows' n none h = became_added a f rows rows' (record {
    here = λ p l. elim (dec_lt p (n * 64)) [
      | yes m ↦ h.done p m
      | no m ↦ h.rest a p (λ _. omega arith) ∙ sym (rw (none p (omega arith)) (omega (arith, row_lt rows a p)))
    ];
    others = λ c p ne. h.rest c p (λ e. absurd (ne e));
  })

  -- the words may be counted otherwise
  pub added_below_same : {n m : ℕ} (rows' : List ℕ) → n ≡ m → AddedBelow a f rows n rows' → AddedBelow a f rows m rows'
  added_below_same rows' e h = subst (λ c. AddedBelow a f rows c rows') e h

-- ---- bytes that stand from word `first` on

-- the word of the eight bytes from byte i on
pub bit_from : (src : List ℕ) (first c i x : ℕ) → 8 * first + i ≡ 8 * c → ((t : ℕ) → t < 64 → bit x t ≡ bit_at src (8 * i + t)) → (t : ℕ) → t < 64
    → bit x t ≡ up (first * 64) (bit_at src) (c * 64 + t)
bit_from src first c i x place is t l = is t l ∙ ap (bit_at src) (omega arith) ∙ sym (up_from (first * 64) (bit_at src) (c * 64 + t) (omega arith))

-- the number of a part of eight bytes has their bits
pub bit-part : (src : List ℕ) (i n x : ℕ) → n ≡ 8 → ((t : ℕ) → t < 64 → bit x t ≡ bit_at (slice src i n) t) → (t : ℕ) → t < 64 → bit x t ≡ bit_at src (8 * i + t)
bit-part src i n x e is t l = is t l ∙ bit_at-take (drop i src) n t (omega arith) ∙ bit_at-drop src i t

-- no bits stand behind the last byte
pub up_past : (e : ℕ) (src : List ℕ) (p : ℕ) → e + 8 * length src ≤ p → up e (bit_at src) p ≡ 0
up_past e src p l = up_high e (bit_at src) (8 * length src) p (bit_at_past src) l

-- ---- bytes shifted up by s bits, less than a word

-- rows' is rows with src added below word c of row a; `last` is the word before, whose highest s bits are still to be added
pub record Crossed (a s : ℕ) (src rows : List ℕ) (c : ℕ) (rows' : List ℕ) (last : ℕ) : Type 0 where
  pub size : length rows' ≡ length rows
  pub added : AddedBelow a (up s (bit_at src)) rows c rows'
  pub fits : last < 2 ^ 64
  pub carried : Carries s (bit_at src) c (last / 2 ^ (64 - s))

module _ (a s : ℕ) (src rows : List ℕ) (room : HasRow rows a) (small : s < 64) where
  pub crossed_none : Crossed a s src rows 0 rows 0
  crossed_none = record {
    size = refl;
    added = set_none a _ rows;
    fits = omega arith;
    carried = rw (zero-div (2 ^ (64 - s))) (carries_none s (bit_at src) (bit_at_lt src) (omega arith));
  }

  -- one word more, with what crosses into it
  pub crossed_more : (c x last : ℕ) (rows' : List ℕ) → c < row_words → x < 2 ^ 64 → ((t : ℕ) → t < 64 → bit x t ≡ bit_at src (8 * (8 * c) + t)) → Crossed a s src rows c rows' last
      → Crossed a s src rows (c + 1) (set rows' (a * row_words + c) (bit_xor (at rows' (a * row_words + c)) (bit_or (x * 2 ^ s % 2 ^ 64) (last / 2 ^ (64 - s))))) x
  crossed_more c x last rows' lc lx eight h =
      let g = bit_at src in
      let y = last / 2 ^ (64 - s) in
      let is : (t : ℕ) → t < 64 → bit x t ≡ g (c * 64 + t) = λ t l. eight t l ∙ ap g (omega arith) in
      let sum : 64 ≡ s + (64 - s) = omega arith in
      let few : y < 2 ^ s = shr_lt s (64 - s) (subst (λ n. last < 2 ^ n) sum h.fits) in
      record {
        size = length-set rows' _ _ ∙ h.size;
        added = rw (or_crossing x s y (omega arith) few) (add_more a (up s g) rows rows' c _ (omega (arith, h.size)) lc h.added
            (word_raised s g (bit_at_lt src) (omega arith) c x y is small h.carried));
        fits = lx;
        carried = carries_more s g (bit_at_lt src) (omega arith) c x y is lx _ (64 - s) (bit_shr x (64 - s)) (omega arith);
      }

  -- behind the last byte only what crosses is added
  pub crossed_end : (c last : ℕ) (rows' : List ℕ) → c < row_words → length src ≤ 8 * c → Crossed a s src rows c rows' last
      → AddedTo a (up s (bit_at src)) rows (set rows' (a * row_words + c) (bit_xor (at rows' (a * row_words + c)) (last / 2 ^ (64 - s))))
  crossed_end c last rows' lc end h =
      add_end a (up s (bit_at src)) rows _ (c + 1) (λ p l. up_past s src p (omega arith)) (add_more a (up s (bit_at src)) rows rows' c _ (omega (arith, h.size)) lc h.added (λ t l.
      h.carried t l ∙ elim (dec_lt t s) [
        | yes m ↦ rw (lt-ltb t s m)
        | no m ↦ rw (le-ltb t s (omega arith)) (sym (up_past s src (c * 64 + t) (omega arith)))
      ]))

  pub crossed_all : (c last : ℕ) (rows' : List ℕ) → row_words ≤ c → Crossed a s src rows c rows' last → AddedTo a (up s (bit_at src)) rows rows'
  crossed_all c last rows' l h = add_all a (up s (bit_at src)) rows rows' c l h.added

-- ---- one bit

-- a digit, shifted up to its place in its word
bit-digit : (p v c t : ℕ) → v < 2 → c ≡ p / 64 → t < 64 → bit (v * 2 ^ (p % 64) % 2 ^ 64) t ≡ v * one_at p (c * 64 + t)
bit-digit p v c t lv ec lt = word_shl v (p % 64) t lt ∙ elim (dec_lt t (p % 64)) [
  | yes l ↦ up_low (p % 64) (bit v) t l ∙ sym (rw (one_at_other p (c * 64 + t) (omega arith)) (omega arith))
  | no l ↦ up_from (p % 64) (bit v) t (omega arith) ∙ elim (ℕ_discrete t (p % 64)) [
    | yes e ↦
        let first : t - p % 64 ≡ 0 = omega arith in
        ap (bit v) first ∙ bit_low v ∙ sym (rw (one_at_same p (c * 64 + t) (omega arith)) (omega arith))
    | no e ↦ bit_high v 1 (t - p % 64) lv (omega arith) ∙ sym (rw (one_at_other p (c * 64 + t) (omega arith)) (omega arith))
  ]
]

pub digit_added : (a p v x : ℕ) (rows : List ℕ) → HasRow rows a → p < row_bits → v < 2 → x ≡ v
    → AddedTo a (λ q. v * one_at p q) rows (set rows (a * row_words + p / 64) (bit_xor (at rows (a * row_words + p / 64)) (x * 2 ^ (p % 64) % 2 ^ 64)))
digit_added a p v x rows room lp lv e =
    let none : (q : ℕ) → p ≢ q → v * one_at p q ≡ 0 = λ q ne. rw (one_at_other p q ne) (omega arith) in
    add_end a _ rows _ (p / 64 + 1) (λ q l. none q (omega arith))
    (add_more a _ rows rows (p / 64) _ room (omega arith) (add_from a _ rows (p / 64) (λ q l. none q (omega arith)))
    (λ t lt. ap (λ (n : ℕ). bit (n * 2 ^ (p % 64) % 2 ^ 64) t) e ∙ bit-digit p v (p / 64) t lv refl lt))
