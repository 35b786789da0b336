-- The answer of rebuild log, from what rebuild gives of each stripe, and that it meets the promise: for examples. Assumes nothing.
use mathlib.Core.Path.{◌≡◌, refl, sym, subst}
use mathlib.Core.Bool.{true}
use mathlib.Core.List.{List, ◌++◌}
use Prim.Native.Nat.{ℕ, zero, suc, ◌*◌, ◌≤◌, ◌<◌}
use native.Mathlib.Omega.{arith}
use native.Mathlib.Decide.{ℕ_discrete}
use lib.ListN.{length, drop}
use Rattle.bits.specs.Bits.{part}
use Rattle.table.specs.Limits.{max_stripes}
use Rattle.table.specs.Desk.{Desk, desk, sources_bytes, survivors_bytes}
use Rattle.table.specs.Checks.{Checked, shape_checks, stripes_checks, marks_checks, input_checks, output_checks}
use Rattle.table.proofs.CheckLaws.{numbered_by, goes, exactly_long}
use Rattle.table.proofs.ShapeLaws.{marked_parts}
use Rattle.table.proofs.Taken.{inside_b, taken_b, stripes_taken, taken_checked}
use Rattle.whole_log.specs.Stages.{log_lengths_checks}
use Rattle.whole_log.specs.Promise.{LogRebuilt}
use Rattle.promises.specs.Logs.{log_shape_and_lengths, StripeRebuilt}
use Rattle.promises.proofs.Logs.{one_rebuild_a_stripe_is_the_log}

module _ (k m l : ℕ) (table : List ℕ) (stripes marks : ℕ) (packets before : List ℕ) where
  abbrev D : Desk
  D = desk k m l table marks

  -- the call is accepted, and what it lends has its length
  pub record LogLent : Type 0 where
    pub taken : taken_b k m l table marks ≡ true
    pub few : inside_b max_stripes stripes ≡ true
    pub input : length packets ≡ stripes * survivors_bytes D
    pub output : length before ≡ stripes * sources_bytes D

  -- so no check before 8 refuses
  log_accepted : LogLent → Checked (log_shape_and_lengths k m l table stripes marks packets before) 0
  log_accepted lent =
      let parts = marked_parts k m l table marks (taken_checked k m l table marks lent.taken) in
      let shape = shape_checks k m l table in
      let marking = marks_checks k m marks in
      let input = input_checks (stripes * survivors_bytes D) packets in
      let output = output_checks (stripes * sources_bytes D) before in
      let sizes = log_lengths_checks D stripes packets before in
      let long = exactly_long 4 (stripes * survivors_bytes D) packets lent.input in
      let room = exactly_long 5 (stripes * sources_bytes D) before lent.output in
      let lengths = goes input output 0 (numbered_by input refl) long room in
      let marked = goes marking sizes 0 (numbered_by marking refl) parts.1 lengths in
      let striped = goes (stripes_checks stripes) (marking ++ sizes) 0 (numbered_by (stripes_checks stripes) refl) (stripes_taken stripes lent.few) marked in
      goes shape (stripes_checks stripes ++ marking ++ sizes) 0 (numbered_by shape refl) parts.0 striped

  -- what rebuild gives of the first n stripes, one by one, after c steps each
  abbrev pub Each : List ℕ → ℕ → ℕ → Type 0
  Each after c zero = Unit
  Each after c (suc t) = Each after c t × StripeRebuilt k m l table marks packets before t 0 c (part after (sources_bytes D) t)

  each_one : (after : List ℕ) (c n : ℕ) → Each after c n → (t : ℕ) → t < n → StripeRebuilt k m l table marks packets before t 0 c (part after (sources_bytes D) t)
  each_one after c zero x t low = absurd (omega arith)
  each_one after c (suc n) x t low = elim (ℕ_discrete t n) [
    | yes e ↦ subst (λ u. StripeRebuilt k m l table marks packets before u 0 c (part after (sources_bytes D) u)) (sym e) x.1
    | no ne ↦ each_one after c n x.0 t (omega arith)
  ]

  -- the output has its length, and is as it was behind so many stripes
  abbrev pub Kept : ℕ → List ℕ → Type 0
  Kept good after = (length after ≡ length before) × (drop (good * sources_bytes D) after ≡ drop (good * sources_bytes D) before)

  -- what is computed of an accepted rebuild log: that rebuild reads all stripes, or that it refuses one behind those that it reads
  pub data LogOutcome : ℕ → ℕ → ℕ → List ℕ → Type 0 where
    reads_all : {count : ℕ} {after : List ℕ} → Each after count stripes → Kept stripes after → LogOutcome 0 stripes count after
    stops_at : {count : ℕ} {after : List ℕ} (number good c : ℕ) → 8 ≤ number → good < stripes → Each after c good
        → StripeRebuilt k m l table marks packets before good number count (part before (sources_bytes D) good) → Kept good after → LogOutcome number good count after

  pub log_outcome_meets : LogLent → {number good count : ℕ} {after : List ℕ} → LogOutcome number good count after
      → LogRebuilt k m l table stripes marks packets before number good count after
  log_outcome_meets lent (reads_all {count} {after} each kept) =
      one_rebuild_a_stripe_is_the_log k m l table stripes marks packets before 0 stripes count after (log_accepted lent)
      (record { good_ones = λ t low. (count, (λ _. refl), each_one after count stripes each t low); bad_one = λ low. absurd (omega arith) })
      (λ _. refl) (λ n. absurd (n refl)) kept.0 kept.1
  log_outcome_meets lent (stops_at {count} {after} number good c late fewer each bad kept) =
      one_rebuild_a_stripe_is_the_log k m l table stripes marks packets before number good count after (log_accepted lent)
      (record { good_ones = λ t low. (c, (λ z. absurd (omega arith)), each_one after c good each t low); bad_one = λ _. bad })
      (λ z. absurd (omega arith)) (λ _. fewer) kept.0 kept.1
