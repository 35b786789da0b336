-- A logbook at once: rebuild log gives what rebuild gives of each stripe, up to the first bad one. proofs/Logs proves each statement: `GoodAtMost` is proved as `good-at-most`.
use Rattle.std.specs.Prelude.{◌≡◌, ◌↔◌, List, ◌++◌, ℕ, ◌*◌, ◌≤◌, ◌<◌, length, drop}
use Rattle.bits.specs.Bits.{part}
use Rattle.table.specs.Desk.{desk, sources_bytes, survivors_bytes}
use Rattle.table.specs.Checks.{Checks, Checked, shape_checks, stripes_checks, marks_checks}
use Rattle.rebuild.specs.Promise.{Rebuilt}
use Rattle.whole_log.specs.Stages.{log_lengths_checks}
use Rattle.whole_log.specs.Promise.{LogRebuilt}

-- the checks before 8: 1 2 3 25 6 7 4 5
abbrev pub log_shape_and_lengths : ℕ → ℕ → ℕ → List ℕ → ℕ → ℕ → List ℕ → List ℕ → Checks
log_shape_and_lengths k m l table stripes marks packets before =
    shape_checks k m l table
    ++ stripes_checks stripes
    ++ marks_checks k m marks
    ++ log_lengths_checks (desk k m l table marks) stripes packets before

-- No more stripes are told good than there are;
abbrev pub GoodAtMost : Type 0
GoodAtMost =
    (k m l : ℕ) (table : List ℕ) (stripes marks : ℕ) (packets before : List ℕ) (number good count : ℕ) (after : List ℕ)
    → LogRebuilt k m l table stripes marks packets before number good count after
    → good ≤ stripes

-- and, once the checks before 8 pass, not all of them exactly when refused.
abbrev pub NotAllGoodExactly : Type 0
NotAllGoodExactly =
    (k m l : ℕ) (table : List ℕ) (stripes marks : ℕ) (packets before : List ℕ) (number good count : ℕ) (after : List ℕ)
    → LogRebuilt k m l table stripes marks packets before number good count after
    → Checked (log_shape_and_lengths k m l table stripes marks packets before) 0
    → (good < stripes) ↔ (number ≡ 0 → ⊥)

-- rebuild, of stripe t alone: its packets, its part of the output as it was, a number, a count, and the part of the output that it gives
abbrev pub StripeRebuilt : ℕ → ℕ → ℕ → List ℕ → ℕ → List ℕ → List ℕ → ℕ → ℕ → ℕ → List ℕ → Type 0
StripeRebuilt k m l table marks packets before t number count sources =
    Rebuilt k m l table marks (part packets (survivors_bytes (desk k m l table marks)) t) (part before (sources_bytes (desk k m l table marks)) t) number count sources

-- each good stripe as rebuild gives it, with one count of steps when done; and the stripe behind them with rebuild log's number and count, its part of the output as it was
pub record OneRebuildAStripe (k m l : ℕ) (table : List ℕ) (stripes marks : ℕ) (packets before : List ℕ) (number good count : ℕ) (after : List ℕ) : Type 0 where
  pub good_ones : (t : ℕ) → t < good
      → (c : ℕ) × (number ≡ 0 → c ≡ count) × StripeRebuilt k m l table marks packets before t 0 c (part after (sources_bytes (desk k m l table marks)) t)
  pub bad_one : good < stripes → StripeRebuilt k m l table marks packets before good number count (part before (sources_bytes (desk k m l table marks)) good)

-- Once the checks before 8 pass, that is what rebuild log gives;
abbrev pub LogIsOneRebuildAStripe : Type 0
LogIsOneRebuildAStripe =
    (k m l : ℕ) (table : List ℕ) (stripes marks : ℕ) (packets before : List ℕ) (number good count : ℕ) (after : List ℕ)
    → LogRebuilt k m l table stripes marks packets before number good count after
    → Checked (log_shape_and_lengths k m l table stripes marks packets before) 0
    → OneRebuildAStripe k m l table stripes marks packets before number good count after

-- and whatever gives that, and keeps the output from there on, meets its promise.
abbrev pub OneRebuildAStripeIsTheLog : Type 0
OneRebuildAStripeIsTheLog =
    (k m l : ℕ) (table : List ℕ) (stripes marks : ℕ) (packets before : List ℕ) (number good count : ℕ) (after : List ℕ)
    → Checked (log_shape_and_lengths k m l table stripes marks packets before) 0
    → OneRebuildAStripe k m l table stripes marks packets before number good count after
    → (number ≡ 0 → good ≡ stripes)
    → ((number ≡ 0 → ⊥) → good < stripes)
    → length after ≡ length before
    → let w = sources_bytes (desk k m l table marks) in
    drop (good * w) after ≡ drop (good * w) before
    → LogRebuilt k m l table stripes marks packets before number good count after
