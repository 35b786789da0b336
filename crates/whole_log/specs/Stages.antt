-- What is left of rebuild log once the shape is accepted, over the desk of that shape.
use Rattle.std.specs.Prelude.{List, ◌++◌, ℕ, ◌*◌}
use Rattle.table.specs.Desk.{Desk, sources_bytes, survivors_bytes}
use Rattle.table.specs.Checks.{Checks, stripes_checks, marks_checks, input_checks, output_checks}
use Rattle.stripe.specs.Stripes.{log_decode_checks, LogAnswered}

module _ (D : Desk) (stripes : ℕ) (packets : List ℕ) where
  -- 4 5, for all stripes together
  abbrev pub log_lengths_checks : List ℕ → Checks
  log_lengths_checks before = input_checks (stripes * survivors_bytes D) packets ++ output_checks (stripes * sources_bytes D) before

  -- 4 5 8 9 10
  abbrev pub log_lent_checks : List ℕ → Checks
  log_lent_checks before = log_lengths_checks before ++ log_decode_checks D stripes packets

  abbrev pub LogLent : List ℕ → ℕ → ℕ → ℕ → List ℕ → Type 0
  LogLent before = LogAnswered D stripes packets (log_lent_checks before) before

  -- 25 6 7 4 5 8 9 10
  abbrev pub log_striped_checks : ℕ → List ℕ → Checks
  log_striped_checks marks before = stripes_checks stripes ++ marks_checks D.k D.m marks ++ log_lent_checks before
