-- Where the steps lead that a loop makes, one for each bare pair that is found; what a loop reads with them is its own. Assumes nothing.
use mathlib.Core.Path.{◌≡◌, refl, sym, ap, ◌∙◌, subst}
use mathlib.Core.Bool.{Bool, true≢false}
use mathlib.Core.List.{List}
use Prim.Native.Nat.{ℕ, ◌+◌, ◌≤◌}
use native.Mathlib.Omega.{arith}
use lib.ListN.{length, set, length-set}
use Rattle.bits.specs.Sums.{at}
use Rattle.bits.specs.Bits.{Tells}
use Rattle.table.specs.Limits.{max_k, noughts}
use Rattle.table.specs.Desk.{Desk}
use Rattle.walk.specs.Walk.{bump, Bare, Stuck, Fits, Whole}
use Rattle.walk.specs.Ends.{Reaches, Ended}
use Rattle.walk.specs.Compute.{whole_b}
use Rattle.walk.proofs.Totals.{all}
use Rattle.walk.proofs.Computed.{at-bump, whole_of, of_whole}
use Rattle.walk.proofs.Reached.{at-noughts, reaches_none, reaches_more, reaches_fits, reaches_short}

module _ (D : Desk) where
  open D use {k}

  -- so many steps lead from nothing to g
  pub record Led (g : List ℕ) (count : ℕ) : Type 0 where
    pub end : ℕ → ℕ
    pub is_end : at g ≡ end
    pub size : length g ≡ max_k
    pub reached : Reaches D count end

  abbrev pub led_none : Led noughts 0
  led_none = record { end = λ c. 0; is_end = sym at-noughts; size = refl; reached = reaches_none D }

  module _ {g : List ℕ} {count : ℕ} (L : Led g count) where
    pub led_fits : Fits D (at g)
    led_fits = subst (λ (h : ℕ → ℕ). Fits D h) (sym L.is_end) (reaches_fits D L.reached)

    pub led_short : count ≤ all D
    led_short = reaches_short D L.reached

    -- no pair is bare: the end
    abbrev pub led_ended : Stuck D (at g) → Ended D count
    led_ended stuck = record { end = L.end; reached = L.reached; stuck = subst (λ (h : ℕ → ℕ). Stuck D h) L.is_end stuck }

    -- the test tells there whether every missing source is whole
    pub led_tells : (whole : Bool) → whole ≡ whole_b D (at g) → Tells whole (Whole D L.end)
    led_tells whole e =
        subst (λ (h : ℕ → ℕ). Tells whole (Whole D h)) L.is_end
        record { so = λ t. whole_of D (at g) led_fits (sym e ∙ t); not_so = λ f w. true≢false (sym (of_whole D (at g) w) ∙ sym e ∙ f) }

    -- a pair that is bare at g is so where the steps lead
    pub led_bare : (a b : ℕ) → Bare D (at g) a b → Bare D L.end a b
    led_bare a b B = subst (λ (h : ℕ → ℕ). Bare D h a b) L.is_end B

    pub led_here : (b : ℕ) → at g b ≡ L.end b
    led_here b = ap (λ (h : ℕ → ℕ). h b) L.is_end

    -- one step more
    abbrev pub led_more : k ≤ max_k → (a b : ℕ) → Bare D (at g) a b → Led (set g b (at g b + 1)) (count + 1)
    led_more few a b B = record {
      end = bump L.end b;
      is_end = at-bump g b (omega (arith, L.size, few, B.free.0.0)) ∙ ap (λ (h : ℕ → ℕ). bump h b) L.is_end;
      size = length-set g b (at g b + 1) ∙ L.size;
      reached = reaches_more D a b L.reached (led_bare a b B);
    }
