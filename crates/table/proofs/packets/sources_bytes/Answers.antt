-- As many sources as there can be, of as many bytes as there can be, are few enough to count. Assumes nothing.
use mathlib.Core.Path.{ap}
use Prim.Native.Nat.{◌*◌, ◌≤◌}
use native.Mathlib.Nat.{mul-le-mul}
use native.Mathlib.Omega.{arith}
use Rattle.table.specs.Limits.{max_bytes, all_sources}
use Rattle.table.proofs.packets.sources_bytes.Goals as goal
use Rattle.table.proofs.packets.sources_bytes.Goals.{After-source_bytes}

fits : (c : After-source_bytes) → c.args.k * c.source_bytes.result ≤ all_sources
fits c =
    let h : c.source_bytes.result ≤ max_bytes = omega (arith, c.source_bytes.ensures, c.requires.1) in
    mul-le-mul c.requires.0 h

pub overflow_mul-result : goal.overflow_mul-result
overflow_mul-result c = omega (arith, fits (goal.at.overflow_mul-result c).After-source_bytes)

pub returns : goal.returns
returns c = (ap (λ n. c.args.k * n) c.source_bytes.ensures, fits (goal.at.returns c).After-source_bytes)
