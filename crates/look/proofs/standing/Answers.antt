-- Before a source stand only sources. Assumes nothing.
use mathlib.Core.Path.{refl, sym, ap, ap₂, ◌∙◌}
use mathlib.Core.Logic.{inl, inr}
use Prim.Native.Nat.{◌*◌, ◌≤◌}
use native.Mathlib.Nat.{mul-le-mul}
use native.Mathlib.Omega.{arith}
use Rattle.table.specs.Limits.{max_k, max_bytes}
use Rattle.table.specs.Desks.{desk_of}
use Rattle.table.proofs.PacketLaws.{source_bytes_high, place-among-sources}
use Rattle.look.proofs.standing.Goals as goal

pub overflow_mul-result : goal.overflow_mul-result
overflow_mul-result c =
    let few : c.present_before.result ≤ max_k = omega (arith, c.present_before.ensures.1, c.args.desk.now.within.k_high, c.requires) in
    let short : c.source_bytes-bytes.result ≤ max_bytes = omega (arith, c.source_bytes-bytes.ensures, source_bytes_high c.args.desk.now.length c.args.desk.now.within.l_high) in
    omega (arith, mul-le-mul few short)

pub returns-then-marked : goal.returns-then-marked
returns-then-marked c =
    let D = desk_of c.args.desk.now in
    let place = place-among-sources D D.present c.args.i (omega (arith, c.requires)) in (
      inl (sym c.marked.ensures ∙ c.if-marked.true, refl, ap₂ ◌*◌ c.present_before.ensures.0 c.source_bytes-bytes.ensures ∙ place),
      c.source_bytes-bytes.ensures,
    )

pub overflow_mul-result-2 : goal.overflow_mul-result-2
overflow_mul-result-2 c =
    let few : c.args.i ≤ max_k = omega (arith, c.args.desk.now.within.k_high, c.requires) in
    let short : c.source_bytes-bytes.result ≤ max_bytes = omega (arith, c.source_bytes-bytes.ensures, source_bytes_high c.args.desk.now.length c.args.desk.now.within.l_high) in
    omega (arith, mul-le-mul few short)

pub returns : goal.returns
returns c = (inr (sym c.marked.ensures ∙ c.if-marked.false, refl, ap (λ n. c.args.i * n) c.source_bytes-bytes.ensures), c.source_bytes-bytes.ensures)
