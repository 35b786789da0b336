-- The lengths for all stripes decide 4 and 5, and what is read back the rest. Assumes nothing.
use mathlib.Core.Path.{refl, ap}
use Prim.Native.Nat.{◌*◌, ◌≤◌}
use native.Mathlib.Omega.{arith}
use native.Mathlib.Nat.{mul-le-mul}
use Rattle.table.specs.Limits.{max_packets, longest}
use Rattle.table.specs.Desk.{sources_bytes, survivors_bytes}
use Rattle.table.specs.Desks.{desk_of}
use Rattle.table.proofs.CheckLaws.{below_by, lengths_are}
use Rattle.table.proofs.Bounds.{within_bounds}
use Rattle.lanes.proofs.PlaceLaws.{stripe_short}
use Rattle.stripe.specs.Stripes.{log_decode_checks}
use Rattle.whole_log.specs.Stages.{log_lengths_checks}
use Rattle.whole_log.proofs.StageLaws.{checks_early, log_stops}
use Rattle.whole_log.proofs.log_lent.Goals as goal

pub overflow_mul-needed : goal.overflow_mul-needed
overflow_mul-needed c =
    let high : c.bytes_of_survivors.result ≤ longest * max_packets =
    omega (arith, c.bytes_of_survivors.ensures, stripe_short (desk_of c.args.desk.now) (within_bounds c.args.desk.now)) in
    omega (arith, mul-le-mul c.requires.le_stripes.1 high)

pub returns-in_err-check_lengths : goal.returns-in_err-check_lengths
returns-in_err-check_lengths c =
    let s = c.args in
    let n = s.stripes in
    let D = desk_of s.desk.now in
    let needed = c.bytes_of_survivors in
    let room = c.sources_bytes in
    let lengths = log_lengths_checks D n s.packets.now s.out.now in
    let checked = lengths_are (n * needed.result) (n * survivors_bytes D) (n * room.result) (n * sources_bytes D) s.packets.now s.out.now _
    (ap (λ x. n * x) needed.ensures) (ap (λ x. n * x) room.ensures.0) c.in_err-check_lengths.ensures in
    log_stops D n s.packets.now s.out.now lengths (log_decode_checks D n s.packets.now) _ _ checked (checks_early lengths _ (below_by 8 lengths refl) checked) c.from_residual.ensures.1
