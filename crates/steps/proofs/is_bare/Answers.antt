-- Past both tests of the entries the search of that parity finds the source that is bare there, if any. Assumes nothing.
use mathlib.Core.Path.{sym, ◌∙◌}
use mathlib.Core.Bool.{true≢false}
use Rattle.bits.specs.Sums.{at}
use Rattle.table.specs.Desks.{desk_of}
use Rattle.steps.proofs.StepLaws.{found_tells}
use Rattle.steps.proofs.is_bare.Goals as goal
use Rattle.steps.proofs.is_bare.Goals.{then-names, else-names}

pub returns-then-names-2 : goal.returns-then-names-2
returns-then-names-2 c =
    let x = c.args in
    elim c.if-names.branch [
      | then-names w ↦
          let a-parity = c.names.ensures.so w.if-names.true in
          let a-source = w.names-then-names.ensures.so (sym w.value-is ∙ c.if-names-2.true) in
          found_tells (desk_of x.desk.now) (at x.g.now) x.parity x.source a-parity a-source c.source_of.result c.source_of.ensures c.eq.result c.eq.ensures
      | else-names w ↦ absurd (true≢false (sym c.if-names-2.true ∙ w.value-is ∙ w.if-names.false))
    ]
