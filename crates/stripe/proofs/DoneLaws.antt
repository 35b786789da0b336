-- Stripe after stripe: those that are done, and what the first bad one, or the end, decides. Assumes nothing.
use mathlib.Core.Path.{◌≡◌, refl, sym, ap, ◌∙◌, subst}
use mathlib.Core.Logic.{inl, inr}
use mathlib.Core.List.{List}
use Prim.Native.Nat.{ℕ, ◌+◌, ◌-◌, ◌*◌, ◌≤◌, ◌<◌}
use native.Mathlib.Omega.{arith}
use native.Mathlib.Decide.{ℕ_discrete, dec_lt}
use lib.ListN.{length, take, drop}
use lib.Seq.{drop-drop}
use Rattle.bits.specs.Bits.{part}
use Rattle.bits.proofs.SliceLaws.{part_in, part_taken, slice-length}
use Rattle.table.specs.Desk.{Desk, sources_bytes, survivors_bytes}
use Rattle.table.specs.Checks.{Checked}
use Rattle.walk.specs.Ends.{Finishes}
use Rattle.survivors.specs.Packets.{Stray, EncodesTo, packets_checks, stripe}
use Rattle.rebuild.specs.Stages.{decode_checks, RebuildMade}
use Rattle.stripe.specs.Stripes.{AtStripe, Good, BadAt, log_decode_checks, GoodWritten, LogAnswered}
use Rattle.stripe.proofs.BadLaws.{at-stripe_some, no_other_bad, good_numbered}
use Rattle.stripe.proofs.LaidLaws.{laid, laid_same, laid-length, laid_here, laid_before, laid-after}

module _ (D : Desk) (stripes : ℕ) (packets : List ℕ) where
  abbrev w : ℕ
  w = sources_bytes D

  -- the first t stripes are good, their sources are written, and the rest of the output is as it was; once there is one, the steps finish
  pub record Done (before : List ℕ) (t count : ℕ) (after : List ℕ) : Type 0 where
    pub size : length after ≡ length before
    pub good : (u : ℕ) → u < t → Good D stripes packets u
    pub sources : (u : ℕ) → u < t → EncodesTo D (stripe D packets u) (part after w u)
    pub kept : drop (t * w) after ≡ drop (t * w) before
    pub finish : 1 ≤ t → Finishes D count

  -- what is written of t stripes
  done_written : (before : List ℕ) (t count : ℕ) (after : List ℕ) → Done before t count after → GoodWritten D stripes packets t before after
  done_written before t count after S = record { size = S.size; sources = S.sources; kept = S.kept }

  -- all stripes are done
  pub done_all : (before : List ℕ) (count : ℕ) (after : List ℕ) → 1 ≤ stripes → Done before stripes count after
      → LogAnswered D stripes packets (log_decode_checks D stripes packets) before 0 stripes count after
  done_all before count after some S = record {
    numbered = good_numbered D stripes packets count (S.finish some) S.good;
    told = record { all = λ _. refl; up_to = λ a. absurd (at-stripe_some a refl); none = λ n. absurd (n refl) };
    steps = record { finish = λ _. S.finish some; told = λ n. absurd (n refl) };
    written = done_written before stripes count after S;
  }

  module _ (before : List ℕ) (t count : ℕ) (mid : List ℕ) (S : Done before t count mid) (inside : t < stripes) (fits : stripes * w ≤ length mid)
      (number c : ℕ) (ys : List ℕ) (long : length ys ≡ w) (M : RebuildMade D (stripe D packets t) (part mid w t) number c ys) where
    abbrev after : List ℕ
    after = laid (t * w) w ys mid

    room : t * w + w ≤ length mid
    room = part_in t stripes w (length mid) inside fits

    next : (t + 1) * w ≡ t * w + w
    next = omega arith

    -- stripe t is good
    pub done_more : number ≡ 0 → Done before (t + 1) c after
    done_more z = record {
      size = laid-length (t * w) w mid ys long room ∙ S.size;
      good = λ u l. elim (ℕ_discrete u t) [ yes e ↦ subst (Good D stripes packets) (sym e) here | no n ↦ S.good u (omega arith) ];
      sources = λ u l. elim (ℕ_discrete u t) [
        | yes e ↦ subst (λ v. EncodesTo D (stripe D packets v) (part after w v)) (sym e) (subst (EncodesTo D (stripe D packets t)) (sym (laid_here (t * w) w mid ys long room)) (M.done z).1)
        | no n ↦
            let lu : u < t = omega arith in
            subst (EncodesTo D (stripe D packets u)) (sym (laid_before (t * w) w mid ys long room (u * w) w (part_in u t w (t * w) lu (omega arith)))) (S.sources u lu)
      ];
      kept =
          ap (λ i. drop i after) next ∙ laid-after (t * w) w mid ys long room ∙ sym (drop-drop w (t * w) mid) ∙ ap (drop w) S.kept ∙ drop-drop w (t * w) before
          ∙ ap (λ i. drop i before) (sym next);
      finish = λ _. (M.done z).0;
    }
      where
        tidy : Checked (decode_checks D (stripe D packets t)) number → Stray D (stripe D packets t) → ⊥
        tidy (inl x) s = omega arith
        tidy (inr (_, inl x)) s = omega arith
        tidy (inr (_, inr x)) s = x.0 s

        here : Good D stripes packets t
        here = record { tidy = tidy M.numbered; some = (ys, (M.done z).1) }

    -- stripe t is bad
    pub done_bad : (number ≡ 0 → ⊥) → LogAnswered D stripes packets (log_decode_checks D stripes packets) before number t c after
    done_bad h = record {
      numbered = numbered M.numbered;
      told = record { all = λ z. absurd (h z); up_to = up_to M.numbered; none = λ _ n. none n M.numbered };
      steps = record { finish = λ z. absurd (h z); told = λ _. (M.refused h).1 };
      written = subst (GoodWritten D stripes packets t before) (sym (laid_same (t * w) w mid ys (M.refused h).0)) (done_written before t count mid S);
    }
      where
        bad : (n : ℕ) → Checked (packets_checks D (stripe D packets t)) n → BadAt D stripes packets n t
        bad n own = record { inside = inside; own = own; before = S.good }

        numbered : Checked (decode_checks D (stripe D packets t)) number → Checked (log_decode_checks D stripes packets) number
        numbered (inl x) = inl x
        numbered (inr (s, inl x)) = inr (s, inl ((t, bad 9 (inl (x.0, refl))), x.1))
        numbered (inr (s, inr (n, inl x))) =
            let here = bad 10 (inr (n, inl (x.0, refl))) in
            inr (s, inr (no_other_bad D stripes packets 10 9 t (λ z. omega arith) (λ z. omega arith) (λ z. omega arith) here, inl ((t, here), x.1)))
        numbered (inr (s, inr (n, inr x))) = absurd (h x.1)

        up_to : Checked (decode_checks D (stripe D packets t)) number → AtStripe number → BadAt D stripes packets number t
        up_to (inl x) (inl e) = absurd (omega arith)
        up_to (inl x) (inr e) = absurd (omega arith)
        up_to (inr x) e = bad number x.1

        none : (AtStripe number → ⊥) → Checked (decode_checks D (stripe D packets t)) number → t ≡ 0
        none n (inl x) = elim (dec_lt t 1) [ yes l ↦ omega arith | no l ↦ absurd (x.0 count (S.finish (omega arith))) ]
        none n (inr (_, inl x)) = absurd (n (inl x.1))
        none n (inr (_, inr (_, inl x))) = absurd (n (inr x.1))
        none n (inr (_, inr (_, inr x))) = absurd (h x.1)

-- part t of n places, as a loop lends it
abbrev pub lent : List ℕ → ℕ → ℕ → List ℕ
lent xs n t = take (t * n + n - t * n) (drop (t * n) xs)

lent-part : (xs : List ℕ) (n' n t : ℕ) → n' ≡ n → lent xs n' t ≡ part xs n t
lent-part xs n' n t e = ap (λ v. lent xs v t) e ∙ part_taken xs n t

pub lent_length : (xs : List ℕ) (n' n t many : ℕ) → n' ≡ n → t < many → length xs ≡ many * n → length (lent xs n' t) ≡ n
lent_length xs n' n t many e l long = ap length (lent-part xs n' n t e) ∙ slice-length xs (t * n) n (part_in t many n (length xs) l (omega arith))

-- a stripe as a loop lends it is that stripe
pub lent-stripe : (D : Desk) (packets : List ℕ) (n t : ℕ) → n ≡ survivors_bytes D → lent packets n t ≡ stripe D packets t
lent-stripe D packets n t e = lent-part packets n (survivors_bytes D) t e

-- the same turn, where the bytes of a stripe's sources are a number of the code
module _ (D : Desk) (stripes : ℕ) (packets before : List ℕ) (t count : ℕ) (mid : List ℕ) (S : Done D stripes packets before t count mid) (inside : t < stripes)
    (fits : length mid ≡ stripes * sources_bytes D) (n : ℕ) (is-n : n ≡ sources_bytes D) (number c : ℕ) (ys : List ℕ) (long : length ys ≡ sources_bytes D)
    (M : RebuildMade D (stripe D packets t) (lent mid n t) number c ys) where
  abbrev out : List ℕ
  out = laid (t * n) (t * n + n - t * n) ys mid

  same : out ≡ laid (t * sources_bytes D) (sources_bytes D) ys mid
  same =
      let w = sources_bytes D in
      let all : t * w + w - t * w ≡ w = omega arith in
      ap (λ v. laid (t * v) (t * v + v - t * v) ys mid) is-n ∙ ap (λ v. laid (t * w) v ys mid) all

  within : stripes * sources_bytes D ≤ length mid
  within = omega arith

  made : RebuildMade D (stripe D packets t) (part mid (sources_bytes D) t) number c ys
  made = subst (λ (z : List ℕ). RebuildMade D (stripe D packets t) z number c ys) (lent-part mid n (sources_bytes D) t is-n) M

  pub turn_more : number ≡ 0 → Done D stripes packets before (t + 1) c out
  turn_more z = subst (Done D stripes packets before (t + 1) c) (sym same) (done_more D stripes packets before t count mid S inside within number c ys long made z)

  pub turn_bad : (number ≡ 0 → ⊥) → LogAnswered D stripes packets (log_decode_checks D stripes packets) before number t c out
  turn_bad h =
      subst (LogAnswered D stripes packets (log_decode_checks D stripes packets) before number t c) (sym same)
      (done_bad D stripes packets before t count mid S inside within number c ys long made h)
