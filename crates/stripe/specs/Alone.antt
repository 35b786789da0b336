-- No source is missing: a log is read where no step is made, and none solved for.
use Rattle.std.specs.Prelude.{◌≡◌, true, false, ℕ, ◌+◌, ◌<◌}
use Rattle.table.specs.Desk.{Desk}

-- the packets at hand are the sources, and no parity
pub record SourcesAlone (D : Desk) : Type 0 where
  pub here : (c : ℕ) → c < D.k → D.present c ≡ true
  pub no_parity : (a : ℕ) → D.present (D.k + a) ≡ false
