-- What the calls for choices hold.
use Rattle.std.specs.Prelude.{Option, Some, None, List, ℕ}
use Rattle.table.specs.Limits.{noughts}
use Rattle.choices.specs.declared.Choice.{Choice}

-- the numbers of a choice, and noughts where there is none
abbrev pub held : Option Choice → List ℕ
held (Some c) = c.ids
held None = noughts
