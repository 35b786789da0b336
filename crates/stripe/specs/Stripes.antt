-- Good and bad stripes of a logbook, and what is told and written of them, over the desk of an accepted shape.
use Rattle.std.specs.Prelude.{◌≡◌, ◌⊎◌, List, [], ◌∷◌, ◌++◌, ℕ, ◌*◌, ◌<◌, length, drop}
use Rattle.bits.specs.Bits.{part}
use Rattle.table.specs.Desk.{Desk, sources_bytes}
use Rattle.table.specs.Checks.{Checks, Checked}
use Rattle.walk.specs.Ends.{Finishes, stall_checks}
use Rattle.survivors.specs.Packets.{Stray, EncodesTo, packets_checks, stripe}
use Rattle.rebuild.specs.Stages.{StepsTold}

-- the numbers with which a logbook is read up to a bad stripe
abbrev pub AtStripe : ℕ → Type 0
AtStripe number = (number ≡ 9) ⊎ (number ≡ 10)

module _ (D : Desk) (stripes : ℕ) (packets : List ℕ) where
  -- stripe t has no stray packet, and some sources encode to it
  pub record Good (t : ℕ) : Type 0 where
    pub tidy : Stray D (stripe D packets t) → ⊥
    pub some : (x : List ℕ) × EncodesTo D (stripe D packets t) x

  -- every stripe before t is good, and n is the number of stripe t alone
  pub record BadAt (n t : ℕ) : Type 0 where
    pub inside : t < stripes
    pub own : Checked (packets_checks D (stripe D packets t)) n
    pub before : (u : ℕ) → u < t → Good u

  -- the first bad stripe gets n
  abbrev pub FirstBad : ℕ → Type 0
  FirstBad n = (t : ℕ) × BadAt n t

  -- 8 9 10
  abbrev pub log_decode_checks : Checks
  log_decode_checks = stall_checks D ++ (9, FirstBad 9) ∷ (10, FirstBad 10) ∷ []

  -- how many stripes are good: all when done, those before the first bad one with 9 and 10, else none
  pub record GoodTold (number good : ℕ) : Type 0 where
    pub all : number ≡ 0 → good ≡ stripes
    pub up_to : AtStripe number → BadAt number good
    pub none : (number ≡ 0 → ⊥) → (AtStripe number → ⊥) → good ≡ 0

  -- the steps that finish when done, those made before the stall with 8, else none
  pub record LogSteps (number count : ℕ) : Type 0 where
    pub finish : number ≡ 0 → Finishes D count
    pub told : (number ≡ 0 → ⊥) → StepsTold D number count

  -- the good stripes' parts of the output encode to them, and from there on the output is as it was
  pub record GoodWritten (good : ℕ) (before after : List ℕ) : Type 0 where
    pub size : length after ≡ length before
    pub sources : (t : ℕ) → t < good → EncodesTo D (stripe D packets t) (part after (sources_bytes D) t)
    pub kept : drop (good * sources_bytes D) after ≡ drop (good * sources_bytes D) before

  -- an answer to these checks
  pub record LogAnswered (checks : Checks) (before : List ℕ) (number good count : ℕ) (after : List ℕ) : Type 0 where
    pub numbered : Checked checks number
    pub told : GoodTold number good
    pub steps : LogSteps number count
    pub written : GoodWritten good before after

  abbrev pub LogDecided : List ℕ → ℕ → ℕ → ℕ → List ℕ → Type 0
  LogDecided before = LogAnswered log_decode_checks before
