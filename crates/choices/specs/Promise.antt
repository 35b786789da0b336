-- What the calls for choices promise.
use Rattle.std.specs.Prelude.{◌≡◌, ◌⊎◌, List, ℕ, ◌+◌}
use Rattle.table.specs.Limits.{noughts}
use Rattle.table.specs.Checks.{Checked, size_checks}
use Rattle.choices.specs.Choices.{Choice, First, Next, padded}

-- what is held is the first choice of k of k + m numbers
pub record Begins (k m : ℕ) (held : List ℕ) : Type 0 where
  pub sized : Checked (size_checks k m) 0
  pub ids : List ℕ
  pub first : First k (k + m) ids
  pub held_is : held ≡ padded ids

-- what is held is a choice of k of k + m numbers
pub record Holding (k m : ℕ) (held ids : List ℕ) : Type 0 where
  pub sized : Checked (size_checks k m) 0
  pub choice : Choice k (k + m) ids
  pub held_is : held ≡ padded ids

-- what is held is the next choice after one that was
pub record Follows (k m : ℕ) (from held : List ℕ) : Type 0 where
  pub ids : List ℕ
  pub was : Holding k m from ids
  pub then : List ℕ
  pub next : Next k (k + m) ids then
  pub held_is : held ≡ padded then

-- where nothing is such, noughts are held
abbrev pub OrNoughts : (List ℕ → Type 0) → List ℕ → Type 0
OrNoughts P held = P held ⊎ (((other : List ℕ) → P other → ⊥) × (held ≡ noughts))
