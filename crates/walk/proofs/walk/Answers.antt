-- Refused as its shape and marks are; else the walk is made over the call's own desk. Assumes nothing.
use mathlib.Core.Path.{◌≡◌, refl}
use mathlib.Core.List.{[]}
use borrow.Author.Rules.{rules}
use Rattle.std.specs.Prelude.{Err}
use Rattle.checks.proofs.OpenLaws.{opened_stops}
use Rattle.walk.proofs.walk.Goals as goal

pub returns-in_err-desk : goal.returns-in_err-desk
returns-in_err-desk c =
    let e : c.from_residual.result ≡ Err c.in_err-desk.field-0.0 = search rules in
    rw e (opened_stops _ c.in_err-desk.ensures [] (refl, refl, refl))
