-- Laws of division by z ^ e, and by 1 + z ^ d: of bits, of a word, and of a row word by word. Assumes nothing.
use Rattle.std.proofs.Common.{◌≡◌, ℕ, zero, suc, ◌+◌, ◌-◌, ◌*◌, ◌/◌, ◌%◌, ◌^◌, ◌<◌, ◌≤◌, cond, ltb, ◌≢◌, List, set, ◌∙◌}
use Rattle.std.proofs.Common.{sym, refl, ap, ap₂, mul_comm, div-add-mod', arith, get_or-set_other, pow_mono, le-ltb, lt-ltb}
use native.Mathlib.Nat.{mod-add-mod, add-mod-mod, add-mul-mod_self_right}
use native.Mathlib.Decide.{dec_lt}
use lib.Bits.{bit_xor}
use Rattle.bits.specs.Sums.{at}
use Rattle.bits.specs.Bits.{bit, up}
use Rattle.bits.proofs.BitLaws.{bit_lt, bit-xor, bit_shr, bit_mod, bit_high, bit_beside, bit_ext}
use Rattle.bits.proofs.UpLaws.{up_low, up_from, up_same, up_up, up_lt}
use Rattle.rows.specs.Rows.{row_bits, row_words, row_in, HasRow, Halved}
use Rattle.rows.specs.Words.{Twice, EachWord}
use Rattle.rows.proofs.RowLaws.{row_at, SetTo, set_none, set_more, AddedBelow, added_here, added_other, add_more, add_all}
use Rattle.rows.proofs.ShiftLaws.{word_shl, Carries, carries_none, carries_more}

-- ---- bits times 1 + z ^ e

abbrev pub twice : ℕ → (ℕ → ℕ) → ℕ → ℕ
twice e f p = (f p + up e f p) % 2

-- a sum of bits, shifted up
up_both : (e : ℕ) (f g : ℕ → ℕ) (p : ℕ) → up e (λ q. (f q + g q) % 2) p ≡ (up e f p + up e g p) % 2
up_both e f g p = elim (dec_lt p e) [
  | yes l ↦ up_low e (λ q. (f q + g q) % 2) p l ∙ rw (up_low e f p l, up_low e g p l)
  | no l ↦ up_from e (λ q. (f q + g q) % 2) p (omega arith) ∙ rw (up_from e f p (omega arith), up_from e g p (omega arith))
]

-- bit p needs no bits past p
twice_same : (e : ℕ) (f g : ℕ → ℕ) (p : ℕ) → ((q : ℕ) → q ≤ p → f q ≡ g q) → twice e f p ≡ twice e g p
twice_same e f g p h = ap₂ (λ x z. (x + z) % 2) (h p (omega arith)) (up_same e f g p (λ q eq. h q (omega arith)))

-- sums modulo 2
four : (a b c d : ℕ) → ((a + b) % 2 + (c + d) % 2) % 2 ≡ ((a + c) % 2 + (b + d) % 2) % 2
four a b c d = simp (mod-add-mod, add-mod-mod) (ap (λ x. x % 2) (omega arith))

three : (a b c : ℕ) → ((a + b) % 2 + (b + c) % 2) % 2 ≡ (a + c) % 2
three a b c = simp (mod-add-mod, add-mod-mod) (omega arith)

-- a sum times 1 + z ^ e
twice_both : (e : ℕ) (f g : ℕ → ℕ) (p : ℕ) → twice e (λ q. (f q + g q) % 2) p ≡ (twice e f p + twice e g p) % 2
twice_both e f g p = ap (λ x. ((f p + g p) % 2 + x) % 2) (up_both e f g p) ∙ four (f p) (g p) (up e f p) (up e g p)

-- times 1 + z ^ e and 1 + z ^ d in either order
twice_turn : (d e : ℕ) (f : ℕ → ℕ) (p : ℕ) → twice d (twice e f) p ≡ twice e (twice d f) p
twice_turn d e f p =
    let turned : up d (up e f) p ≡ up e (up d f) p = up_up d e f p ∙ ap (λ x. up x f p) (omega arith) ∙ sym (up_up e d f p) in
    ap (λ x. ((f p + up e f p) % 2 + x) % 2) (up_both d f (up e f) p ∙ ap (λ x. (up d f p + x) % 2) turned)
    ∙ four (f p) (up e f p) (up d f p) (up e (up d f) p)
    ∙ ap (λ x. ((f p + up d f p) % 2 + x) % 2) (sym (up_both e f (up d f) p))

-- times 1 + z ^ e once more is times 1 + z ^ 2e
twice-twice : (e : ℕ) (f : ℕ → ℕ) (p : ℕ) → twice e (twice e f) p ≡ twice (e + e) f p
twice-twice e f p = ap (λ x. ((f p + up e f p) % 2 + x) % 2) (up_both e f (up e f) p) ∙ three (f p) (up e f p) (up e (up e f) p) ∙ ap (λ x. (f p + x) % 2) (up_up e e f p)

-- what times 1 + z ^ d is the same is the same
module _ (d n : ℕ) (f g : ℕ → ℕ) (ld : 1 ≤ d) (lf : (p : ℕ) → f p < 2) (lg : (p : ℕ) → g p < 2) (h : (p : ℕ) → p < n → twice d f p ≡ twice d g p) where
  below : (m p : ℕ) → p < m → p < n → f p ≡ g p
  below zero p l ln = absurd (omega arith)
  below (suc m) p l ln = elim (dec_lt p d) [
    | yes s ↦ omega (arith, h p ln, up_low d f p s, up_low d g p s, lf p, lg p)
    | no s ↦
        let earlier : f (p - d) ≡ g (p - d) = below m (p - d) (omega arith) (omega arith) in
        omega (arith, h p ln, up_from d f p (omega arith), up_from d g p (omega arith), earlier, lf p, lg p)
  ]

  twice_only : (p : ℕ) → p < n → f p ≡ g p
  twice_only p ln = below n p ln ln

-- ---- a word divided by 1 + z ^ d

-- word r times 1 + z ^ d is word x times 1 + z ^ e
abbrev pub Between : ℕ → ℕ → ℕ → ℕ → Type 0
Between d e x r = (t : ℕ) → t < 64 → twice d (bit r) t ≡ twice e (bit x) t

pub between_more : (d e x r r' : ℕ) → Between d e x r → Twice e r' r → Between d (e + e) x r'
between_more d e x r r' h double t lt =
    twice_same d (bit r') (twice e (bit r)) t (λ q lq. double q (omega arith))
    ∙ twice_turn d e (bit r) t
    ∙ twice_same e (twice d (bit r)) (twice e (bit x)) t (λ q lq. h q (omega arith))
    ∙ twice-twice e (bit x) t

-- times 1 + z ^ e is nothing once e is past the word
pub between_all : (d e x r : ℕ) → 64 ≤ e → Between d e x r → Twice d x r
between_all d e x r l h t lt = omega (arith, h t lt, up_low e (bit x) t (omega arith), bit_lt x t)

pub word_doubled : (e r : ℕ) → Twice e (bit_xor r (r * 2 ^ e % 2 ^ 64)) r
word_doubled e r t lt = bit-xor r (r * 2 ^ e % 2 ^ 64) t ∙ ap (λ x. (bit r t + x) % 2) (word_shl r e t lt)

-- ---- what the word before adds: d bits, again and again

-- a factor taken modulo n first
mul_mod_of : (n a k : ℕ) → a % n * k % n ≡ a * k % n
mul_mod_of n a k =
    let parts : a * k ≡ a % n * k + a / n * k * n = omega (arith, ap (λ x. x * k) (div-add-mod' a n)) in
    sym (ap (λ x. x % n) parts ∙ add-mul-mod_self_right (a % n * k) (a / n * k) n)

-- the product of words, by halves
pub times_halves : (x₁ x₀ y₁ y₀ n : ℕ) → (x₀ * y₀ + (x₀ * y₁ + x₁ * y₀) % (n * n) * n % (n * n)) % (n * n) ≡ (x₁ * n + x₀) * (y₁ * n + y₀) % (n * n)
times_halves x₁ x₀ y₁ y₀ n =
    ap (λ z. (x₀ * y₀ + z) % (n * n)) (mul_mod_of (n * n) (x₀ * y₁ + x₁ * y₀) n) ∙ add-mod-mod (x₀ * y₀) ((x₀ * y₁ + x₁ * y₀) * n) (n * n)
    ∙ sym (ap (λ z. z % (n * n)) (omega arith) ∙ add-mul-mod_self_right (x₀ * y₀ + (x₀ * y₁ + x₁ * y₀) * n) (x₁ * y₁) (n * n))

-- the comb, 1 divided by 1 + z ^ d, as a number
comb_again : (d m : ℕ) → 1 ≤ d → m < 2 ^ 64 → Twice d 1 m → m ≡ (m * 2 ^ d + 1) % 2 ^ 64
comb_again d m ld word h = bit_ext m _ (λ t. elim (dec_lt t 64) [
  | yes l ↦
      let one : 1 < 2 ^ d = omega (arith, pow_mono {i = 1} {j = d} ld) in
      let raised : bit (m * 2 ^ d) t ≡ up d (bit m) t = sym (bit_mod (m * 2 ^ d) 64 t l) ∙ word_shl m d t l in
      sym (bit_mod (m * 2 ^ d + 1) 64 t l ∙ bit_beside m d 1 t one ∙ omega (arith, raised, h t l, bit_lt m t, up_lt d (bit m) t (bit_lt m)))
  | no l ↦ bit_high m 64 t word (omega arith) ∙ sym (bit_high ((m * 2 ^ d + 1) % 2 ^ 64) 64 t (omega arith) (omega arith))
])

-- d bits times the comb are those d bits divided
pub comb_carries : (d m c : ℕ) → 1 ≤ d → m < 2 ^ 64 → Twice d 1 m → c < 2 ^ d → Twice d c (c * m % 2 ^ 64)
comb_carries d m c ld word h small t l =
    let w = c * m % 2 ^ 64 in
    let again : w ≡ (w * 2 ^ d + c) % 2 ^ 64 =
    ap (λ x. c * x % 2 ^ 64) (comb_again d m ld word h) ∙ ap (λ x. x % 2 ^ 64) (mul_comm c _) ∙ mul_mod_of (2 ^ 64) (m * 2 ^ d + 1) c
    ∙ ap (λ x. x % 2 ^ 64) (omega arith) ∙ sym (mod-add-mod (c * m * 2 ^ d) (2 ^ 64) c)
    ∙ ap (λ x. (x + c) % 2 ^ 64) (sym (mul_mod_of (2 ^ 64) (c * m) (2 ^ d))) ∙ mod-add-mod (w * 2 ^ d) (2 ^ 64) c in
    let raised : bit (w * 2 ^ d) t ≡ up d (bit w) t = sym (bit_mod (w * 2 ^ d) 64 t l) ∙ word_shl w d t l in
    let here : bit w t ≡ (bit (w * 2 ^ d) t + bit c t) % 2 = ap (λ x. bit x t) again ∙ bit_mod (w * 2 ^ d + c) 64 t l ∙ bit_beside w d c t small in
    omega (arith, here, raised, bit_lt c t, bit_lt w t, up_lt d (bit w) t (bit_lt w))

-- a word divided by itself, and what the word before adds
pub word_joined : (d c : ℕ) (y : ℕ → ℕ) (x s carry w : ℕ) → 1 ≤ d → ((p : ℕ) → y p < 2) → ((t : ℕ) → t < 64 → bit x t ≡ twice d y (c * 64 + t))
    → Twice d x s → Carries d y c carry → Twice d carry w → (t : ℕ) → t < 64 → bit (bit_xor s w) t ≡ y (c * 64 + t)
word_joined d c y x s carry w ld small made half carries wave =
    twice_only d 64 (bit (bit_xor s w)) (λ t. y (c * 64 + t)) ld (bit_lt (bit_xor s w)) (λ t. small (c * 64 + t)) (λ t l.
    twice_same d (bit (bit_xor s w)) (λ q. (bit s q + bit w q) % 2) t (λ q _. bit-xor s w q)
    ∙ twice_both d (bit s) (bit w) t
    ∙ ap₂ (λ u v. (u + v) % 2) (sym (half t l) ∙ made t l) (sym (wave t l) ∙ carries t l)
    ∙ whole t)
  where
    whole : (t : ℕ) → (twice d y (c * 64 + t) + cond (ltb t d) (up d y (c * 64 + t)) 0) % 2 ≡ twice d (λ q. y (c * 64 + q)) t
    whole t = elim (dec_lt t d) [
      | yes l ↦ rw (lt-ltb t d l, up_low d (λ q. y (c * 64 + q)) t l) (omega (arith, small (c * 64 + t), up_lt d y (c * 64 + t) small))
      | no l ↦
          let same : up d y (c * 64 + t) ≡ up d (λ q. y (c * 64 + q)) t = up_from d y (c * 64 + t) (omega arith) ∙ ap y (omega arith) ∙ sym (up_from d (λ q. y (c * 64 + q)) t (omega arith)) in
          rw (le-ltb t d (omega arith)) (omega (arith, same))
    ]

-- ---- a row's words

module _ (a : ℕ) where
  pub each_then : (R S T : ℕ → ℕ → Type 0) (rows rows' rows'' : List ℕ) → ((x y z : ℕ) → R x y → S y z → T x z) → EachWord a R rows rows' → EachWord a S rows' rows'' → EachWord a T rows rows''
  each_then R S T rows rows' rows'' then h h' = record { here = λ c l. then _ _ _ (h.here c l) (h'.here c l); others = λ c p ne. h'.others c p ne ∙ h.others c p ne }

  pub each_to : (R S : ℕ → ℕ → Type 0) (rows rows' : List ℕ) → ((x y : ℕ) → R x y → S x y) → EachWord a R rows rows' → EachWord a S rows rows'
  each_to R S rows rows' to h = record { here = λ c l. to _ _ (h.here c l); others = h.others }

  -- the bits of row a, each word shifted up by e by itself
  abbrev pub words_up : ℕ → List ℕ → ℕ → ℕ
  words_up e rows p = up e (bit (at rows (a * row_words + p / 64))) (p % 64)

  words_up-at : (e : ℕ) (rows : List ℕ) (c t : ℕ) → t < 64 → words_up e rows (c * 64 + t) ≡ up e (bit (at rows (a * row_words + c))) t
  words_up-at e rows c t lt =
      let q : (c * 64 + t) / 64 ≡ c = omega arith in
      let m : (c * 64 + t) % 64 ≡ t = omega arith in
      ap₂ (λ x z. up e (bit (at rows (a * row_words + x))) z) q m

  -- one word more is doubled
  pub doubled_more : (e : ℕ) (rows rows' : List ℕ) (c : ℕ) → HasRow rows' a → c < row_words → AddedBelow a (words_up e rows) rows c rows'
      → let x = at rows' (a * row_words + c) in AddedBelow a (words_up e rows) rows (c + 1) (set rows' (a * row_words + c) (bit_xor x (x * 2 ^ e % 2 ^ 64)))
  doubled_more e rows rows' c room lc h = add_more a (words_up e rows) rows rows' c _ room lc h (λ t lt.
      word_shl (at rows' (a * row_words + c)) e t lt
      ∙ up_same e _ (bit (at rows (a * row_words + c))) t (λ q eq. sym (row_at rows' a c q lc (omega arith)) ∙ h.rest a (c * 64 + q) (λ _. omega arith) ∙ row_at rows a c q lc (omega arith))
      ∙ sym (words_up-at e rows c t lt))

  pub doubled_all : (e : ℕ) (rows rows' : List ℕ) (n : ℕ) → row_words ≤ n → AddedBelow a (words_up e rows) rows n rows' → EachWord a (λ x r. Twice e r x) rows rows'
  doubled_all e rows rows' n l h =
      let added = add_all a (words_up e rows) rows rows' n l h in
      record {
        here = λ c lc t lt.
            sym (row_at rows' a c t lc lt) ∙ added_here a _ rows rows' added (c * 64 + t) (omega arith) ∙ ap₂ (λ u v. (u + v) % 2) (row_at rows a c t lc lt) (words_up-at e rows c t lt);
        others = added_other a _ rows rows' added;
      }

-- ---- a row shifted down

module _ (e c : ℕ) (g : ℕ → ℕ) (x : ℕ) (lo : 1 ≤ e) (le : e ≤ 64) (word : x < 2 ^ 64) (is : (t : ℕ) → t < 64 → bit x t ≡ g (c * 64 + t)) where
  word_down : (t : ℕ) → bit (x / 2 / 2 ^ (e - 1)) t ≡ bit x (e + t)
  word_down t = bit_shr (x / 2) (e - 1) t ∙ bit_shr x 1 (e - 1 + t) ∙ ap (bit x) (omega arith)

  -- a word shifted down, with what crosses into it from the next
  pub word_lowered : (x' : ℕ) → ((t : ℕ) → t < 64 → bit x' t ≡ g ((c + 1) * 64 + t))
      → (t : ℕ) → t < 64 → bit (bit_xor (x / 2 / 2 ^ (e - 1)) (x' * 2 ^ (64 - e) % 2 ^ 64)) t ≡ g (e + (c * 64 + t))
  word_lowered x' next t lt = bit-xor (x / 2 / 2 ^ (e - 1)) (x' * 2 ^ (64 - e) % 2 ^ 64) t ∙ ap₂ (λ u v. (u + v) % 2) (word_down t) (word_shl x' (64 - e) t lt) ∙ elim (dec_lt (e + t) 64) [
    | yes s ↦ rw (up_low (64 - e) (bit x') t (omega arith)) (omega (arith, bit_lt x (e + t)) ∙ is (e + t) s ∙ ap g (omega arith))
    | no s ↦ rw (bit_high x 64 (e + t) word (omega arith), up_from (64 - e) (bit x') t (omega arith)) (omega (arith, bit_lt x' (t - (64 - e))) ∙ next (t - (64 - e)) (omega arith) ∙ ap g (omega arith))
  ]

  -- the last word, with noughts
  pub word_lowered_last : ((p : ℕ) → (c + 1) * 64 ≤ p → g p ≡ 0) → (t : ℕ) → t < 64 → bit (x / 2 / 2 ^ (e - 1)) t ≡ g (e + (c * 64 + t))
  word_lowered_last past t lt = word_down t ∙ elim (dec_lt (e + t) 64) [
    | yes s ↦ is (e + t) s ∙ ap g (omega arith)
    | no s ↦ bit_high x 64 (e + t) word (omega arith) ∙ sym (past _ (omega arith))
  ]

-- what is z ^ e + z ^ (e + d) times y is 1 + z ^ d times y shifted up by e
pub raised-twice : (e d : ℕ) (y : ℕ → ℕ) (p : ℕ) → (up e y p + up (e + d) y p) % 2 ≡ twice d (up e y) p
raised-twice e d y p = ap (λ x. (up e y p + x) % 2) (ap (λ x. up x y p) (omega arith) ∙ sym (up_up d e y p))

-- ---- a row divided by 1 + z ^ d

-- a word of one row set, another row is as it was
set_other : (rows : List ℕ) (a c x b p : ℕ) → c < row_words → a ≢ b → row_in (set rows (a * row_words + c) x) b p ≡ row_in rows b p
unfolding row_in
set_other rows a c x b p lc ne = elim (dec_lt p row_bits) [
  | yes l ↦ rw (lt-ltb p row_bits l) (ap (λ z. bit z (p % 64)) (get_or-set_other rows (a * row_words + c) (b * row_words + p / 64) x 0 (λ e. ne (omega arith))))
  | no l ↦ rw (le-ltb p row_bits (omega arith))
]

module _ (a d : ℕ) (before rows : List ℕ) where
  -- row a, whose words are those of `before`, each divided by itself, is divided below word c
  pub record Joined (c carry : ℕ) (rows' : List ℕ) : Type 0 where
    pub done : (y : ℕ → ℕ) → ((p : ℕ) → y p < 2) → ((p : ℕ) → p < row_bits → row_in before a p ≡ twice d y p) → SetTo a y c rows rows' × Carries d y c carry
    pub others : (b p : ℕ) → a ≢ b → row_in rows' b p ≡ row_in rows b p

  pub joined_none : d ≤ 64 → Joined 0 0 rows
  joined_none le = record { done = λ y small made. (set_none a y rows, carries_none d y small le); others = λ b p ne. refl }

  module _ (halves : EachWord a (Twice d) before rows) where
    pub joined_more : (rows' : List ℕ) (c carry w : ℕ) → 1 ≤ d → d ≤ 64 → HasRow rows' a → c < row_words → Joined c carry rows' → Twice d carry w
        → let x = bit_xor (at rows' (a * row_words + c)) w in x < 2 ^ 64 → Joined (c + 1) (x / 2 ^ (64 - d)) (set rows' (a * row_words + c) x)
    joined_more rows' c carry w lo le room lc h wave word = record {
      done = λ y small made.
          let i = a * row_words + c in
          let so_far = h.done y small made in
          let still : (t : ℕ) → t < 64 → bit (at rows i) t ≡ bit (at rows' i) t =
          λ t lt. sym (row_at rows a c t lc lt) ∙ sym (so_far.0.rest a (c * 64 + t) (λ _. omega arith)) ∙ row_at rows' a c t lc lt in
          let half : Twice d (at before i) (at rows' i) = λ t lt. halves.here c lc t lt ∙ twice_same d (bit (at rows i)) (bit (at rows' i)) t (λ q lq. still q (omega arith)) in
          let is : (t : ℕ) → t < 64 → bit (bit_xor (at rows' i) w) t ≡ y (c * 64 + t) =
          word_joined d c y (at before i) (at rows' i) carry w lo small (λ t lt. sym (row_at before a c t lc lt) ∙ made (c * 64 + t) (omega arith)) half so_far.1 wave in (
            set_more a y rows rows' c _ room lc so_far.0 is,
            carries_more d y small le c (bit_xor (at rows' i) w) carry is word _ (64 - d) (bit_shr (bit_xor (at rows' i) w) (64 - d)) (omega arith),
          );
      others = λ b p ne. set_other rows' a c _ b p lc ne ∙ h.others b p ne;
    }

    pub joined-all : (rows' : List ℕ) (c carry : ℕ) → row_words ≤ c → Joined c carry rows' → Halved a d before rows'
    joined-all rows' c carry l h = record {
      here = λ y small made p lp. (h.done y small made).0.done p (omega arith);
      others = λ b p ne. h.others b p ne ∙ halves.others b p ne;
    }
