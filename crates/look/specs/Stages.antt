-- What is left of a look once its shape is accepted, over the desk of that shape.
use Rattle.std.specs.Prelude.{◌≡◌, ◌⊎◌, true, false, List, ◌++◌, ℕ, ◌*◌}
use Rattle.table.specs.Desk.{Desk, sources_bytes, survivors_bytes, place_of}
use Rattle.table.specs.Checks.{Checks, asked_checks, input_checks}

module _ (D : Desk) where
  open D use {k, m, bytes, present}

  -- 4: the survivors' buffer, then the rebuilt one
  abbrev pub buffers_checks : List ℕ → List ℕ → Checks
  buffers_checks survivors rebuilt = input_checks (survivors_bytes D) survivors ++ input_checks (sources_bytes D) rebuilt

  -- 6 7 4 4
  abbrev pub found_checks : ℕ → ℕ → List ℕ → List ℕ → Checks
  found_checks marks source survivors rebuilt = asked_checks k m marks k source ++ buffers_checks survivors rebuilt

  -- where source i, from 0, stands: in its place among the survivors (buffer 1) where its card is present, else among the rebuilt sources (buffer 2)
  abbrev pub Stands : ℕ → ℕ → ℕ → Type 0
  Stands i buffer start =
      ((present i ≡ true) × (buffer ≡ 1) × (start ≡ place_of D present i))
      ⊎ ((present i ≡ false) × (buffer ≡ 2) × (start ≡ i * bytes))
