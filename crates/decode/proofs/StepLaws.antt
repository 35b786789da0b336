-- The decoding loop: what was read stands in the sources. Assumes nothing.
use mathlib.Core.Path.{◌≡◌, refl, sym, ap, ◌∙◌, subst}
use mathlib.Core.Bool.{Bool, true, true≢false}
use mathlib.Core.List.{List}
use Prim.Native.Nat.{ℕ, ◌+◌, ◌%◌, ◌≤◌}
use native.Mathlib.Omega.{arith}
use native.Mathlib.Decide.{ℕ_discrete}
use lib.ListN.{length, set, length-set}
use Rattle.bits.specs.Sums.{at}
use Rattle.bits.specs.Bits.{Tells}
use Rattle.bits.proofs.SumLaws.{one_at_same}
use Rattle.table.specs.Limits.{max_k, noughts}
use Rattle.table.specs.Desk.{Desk}
use Rattle.table.proofs.Bounds.{Bounded, shifted_fits}
use Rattle.code.specs.Code.{Bits, sum_of}
use Rattle.walk.specs.Walk.{bump, Gone, Bare, Stuck, Fits, Whole}
use Rattle.walk.specs.Ends.{Reaches}
use Rattle.walk.specs.Read.{put, read, learn, read_by}
use Rattle.walk.specs.Compute.{whole_b}
use Rattle.walk.proofs.Totals.{all}
use Rattle.walk.proofs.Computed.{at-bump, whole_of, of_whole}
use Rattle.walk.proofs.Reached.{at-noughts, reaches_none, reaches_more, reaches_fits, reaches_short}
use Rattle.walk.proofs.ReadLaws.{put-bit, put-source, read_by-snoc}
use Rattle.survivors.specs.Remainders.{source_in}
use Rattle.decode.specs.Data.{Blank, missing_of, left_bit, SameRests, Took, Rests, Decoded}
use Rattle.decode.proofs.MissingSums.{left-all}

module _ (D : Desk) where
  open D use {shift, present, k}

  -- belongs to walk
  -- the test tells whether every missing source is whole
  pub tells_whole : (g : ℕ → ℕ) (r : Bool) → Fits D g → r ≡ whole_b D g → Tells r (Whole D g)
  tells_whole g r fit e = record { so = λ t. whole_of D g fit (sym e ∙ t); not_so = λ f w. true≢false (sym (of_whole D g w) ∙ sym e ∙ f) }

  module _ (rows₀ : List ℕ) where
    -- so many steps lead from nothing to g, and what they read stands in the sources
    pub record Stepping (g : List ℕ) (count : ℕ) (rows : List ℕ) : Type 0 where
      pub end : ℕ → ℕ
      pub is_end : at g ≡ end
      pub size : length g ≡ max_k
      pub reached : Reaches D count end
      pub rests : SameRests D rows₀ rows
      pub blank : (c p : ℕ) → Gone D c → end c ≤ p → source_in D rows c p ≡ 0
      pub kept : (c p : ℕ) → present c ≡ true → source_in D rows c p ≡ source_in D rows₀ c p
      pub goes : (r : Bits) → Rests D r (source_in D rows₀) rows₀ → source_in D rows ≡ read_by D r reached.run (source_in D rows₀)

    module _ (blank₀ : Blank D rows₀) where
      pub stepping_none : Stepping noughts 0 rows₀
      unfolding read_by
      stepping_none = record {
        end = λ c. 0;
        is_end = sym at-noughts;
        size = refl;
        reached = reaches_none D;
        rests = λ a q. refl;
        blank = λ c p gc _. blank₀ c p gc;
        kept = λ c p e. refl;
        goes = λ r R. refl;
      }

      module _ {g : List ℕ} {count : ℕ} {rows : List ℕ} (S : Stepping g count rows) where
        pub stepping_fits : Fits D (at g)
        stepping_fits = subst (λ (h : ℕ → ℕ). Fits D h) (sym S.is_end) (reaches_fits D S.reached)

        pub stepping_short : count ≤ all D
        stepping_short = reaches_short D S.reached

        -- no pair is bare: the end
        pub stepping_end : (whole : Bool) → Stuck D (at g) → Tells whole (Whole D (at g)) → Decoded D count whole rows₀ rows
        stepping_end whole stuck tells = record {
          ended = record { end = S.end; reached = S.reached; stuck = subst (λ (h : ℕ → ℕ). Stuck D h) S.is_end stuck };
          full = subst (λ (h : ℕ → ℕ). Tells whole (Whole D h)) S.is_end tells;
          rests = S.rests;
          kept = S.kept;
          past = λ c p gc l. S.blank c p gc (omega (arith, reaches_fits D S.reached c));
          goes = S.goes;
        }

        module _ (W : Bounded D) (a b : ℕ) (rows' : List ℕ) (bare : Bare D (at g) a b) (T : Took D a b (at g b) rows rows') where
          B : Bare D S.end a b
          B = subst (λ (h : ℕ → ℕ). Bare D h a b) S.is_end bare

          here : at g b ≡ S.end b
          here = ap (λ (h : ℕ → ℕ). h b) S.is_end

          abbrev s : Bits
          s = source_in D rows

          abbrev v : ℕ
          v = left_bit D rows a (shift a b + S.end b)

          became : source_in D rows' ≡ put s b (S.end b) v
          became = T.source ∙ ap (λ p. put s b p (left_bit D rows a (shift a b + p))) here

          was_read : (r : Bits) → Rests D r (source_in D rows₀) rows₀ → v ≡ read D r s S.end a b
          was_read r R =
              let q = shift a b + S.end b in
              let in_row = R a q (omega (arith, shifted_fits D W a b B.held.0 B.free.0.0, B.free.1, W.fits)) in
              ap (λ x. (x + sum_of D (missing_of D s) a q) % 2) (S.rests a q ∙ in_row ∙ rw B.held.1)
              ∙ sym (left-all D r (source_in D rows₀) s blank₀ S.kept a q)

          pub stepping_more : Stepping (set g b (at g b + 1)) (count + 1) rows'
          stepping_more = record {
            end = bump S.end b;
            is_end = at-bump g b (omega (arith, S.size, W.k_high, B.free.0.0)) ∙ ap (λ (h : ℕ → ℕ). bump h b) S.is_end;
            size = length-set g b (at g b + 1) ∙ S.size;
            reached = reaches_more D a b S.reached B;
            rests = λ a q. T.rests a q ∙ S.rests a q;
            blank = λ c p gc h. ap (λ (x : Bits). x c p) became ∙ elim (ℕ_discrete b c) [
              | no ne ↦ put-source s b (S.end b) v c p ne ∙ S.blank c p gc (omega arith)
              | yes e ↦ put-bit s b (S.end b) v c p (λ f. omega (arith, ap S.end e, one_at_same b c e)) ∙ S.blank c p gc (omega arith)
            ];
            kept = λ c p e.
                ap (λ (x : Bits). x c p) became
                ∙ put-source s b (S.end b) v c p (λ f. true≢false (sym e ∙ ap present (sym f) ∙ B.free.0.1)) ∙ S.kept c p e;
            goes = λ r R.
                became ∙ ap (λ x. put s b (S.end b) x) (was_read r R)
                ∙ ap (λ (x : Bits). learn D r x S.end a b) (S.goes r R) ∙ sym (read_by-snoc D r a b S.reached.run B (source_in D rows₀));
          }
