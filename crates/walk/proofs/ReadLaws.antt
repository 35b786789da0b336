-- What a run reads: where the packets come from sources, those sources' bits. Assumes nothing.
use mathlib.Core.Path.{◌≡◌, refl, sym, ap, ◌∙◌}
use mathlib.Core.Logic.{◌≢◌}
use mathlib.Core.Bool.{Bool, true, false, and-false, true≢false}
use Prim.Native.Nat.{ℕ, ◌+◌, ◌%◌, ◌≤◌, ◌<◌}
use native.Mathlib.Omega.{arith}
use native.Mathlib.Decide.{ℕ_discrete, dec_lt}
use borrow.Author.Tests.{eq-eqb, ne_eqb}
use Rattle.bits.specs.Bits.{up}
use Rattle.bits.proofs.SumLaws.{one_at_same, one_at_other, sum_nought, sum_but}
use Rattle.table.specs.Desk.{Desk}
use Rattle.code.specs.Code.{Bits, sum_of, parity, Source, Encodes}
use Rattle.code.proofs.CodeLaws.{sum_of_same}
use Rattle.walk.specs.Walk.{Order, bump, Gone, Bare, Run, done, step, Whole}
use Rattle.walk.specs.Read.{put, present_of, Knows, read, learn, read_by, read_along}
use Rattle.bits.proofs.UpLaws.{up_at, up_same, up_high}
use Rattle.walk.proofs.Runs.{snoc}

pub put_same : (s : Bits) (b p v c q : ℕ) → b ≡ c → p ≡ q → put s b p v c q ≡ v
unfolding put
put_same s b p v c q e f = rw (eq-eqb b c e, eq-eqb p q f)

pub put-bit : (s : Bits) (b p v c q : ℕ) → p ≢ q → put s b p v c q ≡ s c q
unfolding put
put-bit s b p v c q ne = rw (ne_eqb p q ne, and-false)

pub put-source : (s : Bits) (b p v c q : ℕ) → b ≢ c → put s b p v c q ≡ s c q
unfolding put
put-source s b p v c q ne = rw (ne_eqb b c ne)

module _ (D : Desk) where
  open D use {k, m, bits, shift, present}

  -- equal sources have equal parities: belongs to code
  pub parity_same : (x y : Bits) → ((c p : ℕ) → c < k → x c p ≡ y c p) → (a q : ℕ) → parity D x a q ≡ parity D y a q
  parity_same x y e a q = ap (λ v. v % 2) (sum_of_same D x y e a q)

  -- past the last bit of every source as it is shifted, no parity has a one: belongs to code
  pub parity_high : (x : Bits) (a q : ℕ) → Source D x → ((c : ℕ) → c < k → shift a c + bits ≤ q) → parity D x a q ≡ 0
  unfolding sum_of
  parity_high x a q X h =
      let none = sum_nought k (λ c. up (shift a c) (x c) q) (λ c l. up_high (shift a c) (x c) bits q (λ p lp. X.short c p l lp) (h c l)) in
      rw none

  -- under a bare bit every other source is known
  other_known : (x s : Bits) (g : ℕ → ℕ) (a b c : ℕ) → Source D x → Knows D x g s → Bare D g a b → c < k → b ≢ c
      → up (shift a c) (x c) (shift a b + g b) ≡ up (shift a c) (s c) (shift a b + g b)
  other_known x s g a b c X K B lt ne = up_same (shift a c) (x c) (s c) (shift a b + g b) (λ p e. at p e (present c) refl)
    where
      at : (p : ℕ) → shift a b + g b ≡ shift a c + p → (v : Bool) → present c ≡ v → x c p ≡ s c p
      at p e true mc = sym (K.kept c p lt mc)
      at p e false mc =
          elim (dec_lt p (g c)) [
            | yes l ↦ sym (K.below c p (lt, mc) l)
            | no l ↦ elim (dec_lt (g c) bits) [
              | yes u ↦ absurd (omega (arith, B.lowest c ne ((lt, mc), u)))
              | no u ↦ X.short c p lt (omega arith) ∙ sym (K.above c p (lt, mc) (omega arith))
            ]
          ]

  -- the bit read at a bare pair is the source's
  pub read_is : (r s x : Bits) (g : ℕ → ℕ) (a b : ℕ) → Encodes D r s x → Knows D x g s → Bare D g a b → read D r s g a b ≡ x b (g b)
  unfolding sum_of
  read_is r s x g a b E K B =
      let q = shift a b + g b in
      let d = sum_but k b (λ c. up (shift a c) (x c) q) (λ c. up (shift a c) (s c) q) B.free.0.0 (λ c lt ne. other_known x s g a b c E.source K B lt ne) in
      omega (
        arith,
        d,
        E.made a q B.held,
        up_at (shift a b) (x b) (g b),
        up_at (shift a b) (s b) (g b),
        K.above b (g b) B.free.0 (omega arith),
        E.source.bit b (g b),
      )

  pub present_of_blank : (s : Bits) (c p : ℕ) → Gone D c → present_of D s c p ≡ 0
  unfolding present_of
  present_of_blank s c p gc = rw gc.1

  pub present_of_kept : (s : Bits) (c p : ℕ) → present c ≡ true → present_of D s c p ≡ s c p
  unfolding present_of
  present_of_kept s c p mc = rw mc

  pub present_of_encodes : (r s x : Bits) → Encodes D r s x → Encodes D r (present_of D s) x
  present_of_encodes r s x E = record { source = E.source; kept = λ c p lt mc. present_of_kept s c p mc ∙ E.kept c p lt mc; made = E.made }

  -- sources encode to their own parities and to those of them that are present
  pub own_encodes : (x : Bits) → Source D x → Encodes D (parity D x) (present_of D x) x
  own_encodes x X = record { source = X; kept = λ c p lt mc. present_of_kept x c p mc; made = λ a q ha. refl }

  -- where nothing is uncovered yet
  pub knows_none : (r s x : Bits) → ((c p : ℕ) → Gone D c → s c p ≡ 0) → Encodes D r s x → Knows D x (λ c. 0) s
  knows_none r s x blank E = record { kept = E.kept; below = λ c p gc l. absurd (omega arith); above = λ c p gc l. blank c p gc }

  module _ (r : Bits) where
    -- a step leaves the present sources as they are
    pub learn_keeps : (s : Bits) (g : ℕ → ℕ) (a b c p : ℕ) → Bare D g a b → present c ≡ true → learn D r s g a b c p ≡ s c p
    learn_keeps s g a b c p B mc = put-source s b (g b) _ c p (λ e. true≢false (sym mc ∙ ap present (sym e) ∙ B.free.0.1))

    pub learn_knows : (s x : Bits) (g : ℕ → ℕ) (a b : ℕ) → Encodes D r s x → Knows D x g s → Bare D g a b → Knows D x (bump g b) (learn D r s g a b)
    learn_knows s x g a b E K B = record {
      kept = λ c p lt mc. learn_keeps s g a b c p B mc ∙ K.kept c p lt mc;
      below = λ c p gc l. elim (ℕ_discrete b c) [
        | no ne ↦ put-source s b (g b) _ c p ne ∙ K.below c p gc (omega (arith, one_at_other b c ne))
        | yes e ↦ elim (ℕ_discrete (g b) p) [
          | no nf ↦ put-bit s b (g b) _ c p nf ∙ K.below c p gc (omega (arith, ap g e, one_at_same b c e))
          | yes f ↦ put_same s b (g b) _ c p e f ∙ rw (← e, ← f) (read_is r s x g a b E K B)
        ]
      ];
      above = λ c p gc l. elim (ℕ_discrete b c) [
        | no ne ↦ put-source s b (g b) _ c p ne ∙ K.above c p gc (omega arith)
        | yes e ↦ put-bit s b (g b) _ c p (λ f. omega (arith, ap g e, one_at_same b c e)) ∙ K.above c p gc (omega arith)
      ];
    }

    pub learn-source : (s : Bits) (g : ℕ → ℕ) (a b : ℕ) → Bare D g a b → Source D s → Source D (learn D r s g a b)
    learn-source s g a b B S = record {
      bit = λ c q. elim (ℕ_discrete (g b) q) [
        | no ne ↦ rw (put-bit s b (g b) (read D r s g a b) c q ne) (S.bit c q)
        | yes e ↦ elim (ℕ_discrete b c) [
          | no ne ↦ rw (put-source s b (g b) (read D r s g a b) c q ne) (S.bit c q)
          | yes f ↦ rw (put_same s b (g b) (read D r s g a b) c q f e) (omega arith)
        ]
      ];
      short = λ c q lc l. put-bit s b (g b) _ c q (omega (arith, B.free.1)) ∙ S.short c q lc l;
    }

    learn_encodes : (s x : Bits) (g : ℕ → ℕ) (a b : ℕ) → Bare D g a b → Encodes D r s x → Encodes D r (learn D r s g a b) x
    learn_encodes s x g a b B E = record { source = E.source; kept = λ c p lt mc. learn_keeps s g a b c p B mc ∙ E.kept c p lt mc; made = E.made }

    -- one more step at the end, as a loop makes it
    pub read_by-snoc : {g h : ℕ → ℕ} {o : Order} (a b : ℕ) (u : Run D g o h) (B : Bare D h a b) (s : Bits) → read_by D r (snoc D a b u B) s ≡ learn D r (read_by D r u s) h a b
    unfolding read_by snoc
    read_by-snoc a b done B s = refl
    read_by-snoc a b (step d e q u) B s = read_by-snoc a b u B _

    -- a run reads what its order alone does
    pub read-along : {g h : ℕ → ℕ} {o : Order} (u : Run D g o h) (s : Bits) → read_by D r u s ≡ read_along D r o g s
    unfolding read_by read_along
    read-along done s = refl
    read-along (step a b B u) s = read-along u _

    -- if the packets were encoded from sources, every order reads those sources' bits
    pub read_by_knows : {g h : ℕ → ℕ} {o : Order} (u : Run D g o h) (s x : Bits) → Encodes D r s x → Knows D x g s → Knows D x h (read_by D r u s)
    unfolding read_by
    read_by_knows done s x E K = K
    read_by_knows {g} (step a b B u) s x E K = read_by_knows u _ x (learn_encodes s x g a b B E) (learn_knows s x g a b E K B)

    pub read_by_keeps : {g h : ℕ → ℕ} {o : Order} (u : Run D g o h) (s : Bits) (c p : ℕ) → present c ≡ true → read_by D r u s c p ≡ s c p
    unfolding read_by
    read_by_keeps done s c p mc = refl
    read_by_keeps {g} (step a b B u) s c p mc = read_by_keeps u _ c p mc ∙ learn_keeps s g a b c p B mc

    pub read_by-source : {g h : ℕ → ℕ} {o : Order} (u : Run D g o h) (s : Bits) → Source D s → Source D (read_by D r u s)
    unfolding read_by
    read_by-source done s S = S
    read_by-source {g} (step a b B u) s S = read_by-source u _ (learn-source s g a b B S)

    -- an order that finishes, over packets whose missing sources are blank
    module _ (s : Bits) (blank : (c p : ℕ) → Gone D c → s c p ≡ 0) {o : Order} {h : ℕ → ℕ} (u : Run D (λ c. 0) o h) (whole : Whole D h) where
      -- what was read is the only candidate
      pub only : (x : Bits) → Encodes D r s x → (c p : ℕ) → c < k → read_by D r u s c p ≡ x c p
      only x E c p lt = at (present c) refl
        where
          K : Knows D x h (read_by D r u s)
          K = read_by_knows u s x E (knows_none r s x blank E)

          at : (v : Bool) → present c ≡ v → read_by D r u s c p ≡ x c p
          at true mc = K.kept c p lt mc
          at false mc = elim (dec_lt p bits) [
            | yes l ↦ K.below c p (lt, mc) (omega (arith, whole c (lt, mc)))
            | no l ↦ K.above c p (lt, mc) (omega (arith, whole c (lt, mc))) ∙ sym (E.source.short c p lt (omega arith))
          ]

      -- so sources encode to the packets exactly if what was read does
      pub read_by_encodes : Source D s → (x : Bits) → Encodes D r s x → Encodes D r s (read_by D r u s)
      read_by_encodes S x E = record {
        source = read_by-source u s S;
        kept = λ c p lt mc. sym (read_by_keeps u s c p mc);
        made = λ a q ha. E.made a q ha ∙ sym (parity_same _ x (only x E) a q);
      }

    -- two families of sources that encode to the same packets are equal wherever some order finishes
    pub sources_same : (s : Bits) {o : Order} {h : ℕ → ℕ} (u : Run D (λ c. 0) o h) → Whole D h → (x y : Bits) → Encodes D r s x → Encodes D r s y → (c p : ℕ) → c < k → x c p ≡ y c p
    sources_same s u w x y E F c p lt =
        sym (only (present_of D s) (present_of_blank s) u w x (present_of_encodes r s x E) c p lt) ∙ only (present_of D s) (present_of_blank s) u w y (present_of_encodes r s y F) c p lt
