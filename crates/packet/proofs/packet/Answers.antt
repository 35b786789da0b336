-- The shape decides 1, 2 and 3, the wanted number and the marks 6 and 7, and over the desk with the marks the rest is decided. Assumes nothing.
use mathlib.Core.Path.{◌≡◌, refl}
use mathlib.Core.List.{List, ◌++◌}
use Prim.Native.Nat.{ℕ, ◌+◌, ◌-◌}
use borrow.Author.Rules.{rules}
use Rattle.std.specs.Prelude.{Err}
use Rattle.table.specs.Desk.{desk}
use Rattle.table.specs.Desks.{Stands}
use Rattle.table.specs.Checks.{Checked, shape_checks, asked_checks}
use Rattle.table.specs.Refusals.{told}
use Rattle.table.specs.declared.desks.Desk as laid
use Rattle.table.proofs.CheckLaws.{numbered_by, goes, asked_parts, none_above}
use Rattle.table.proofs.DeskLaws.{remarked_stands, remarked_ready}
use Rattle.table.proofs.MarkLaws.{none_left}
use Rattle.table.proofs.RefusalLaws.{refused_stops}
use Rattle.checks.proofs.OpenLaws.{of_numbers, opened_goes}
use Rattle.packet.specs.Stages.{PacketFound, wanted_lent_checks}
use Rattle.packet.proofs.packet.Goals as goal

-- the shape is accepted, and so far the wanted number and the marks say what they say over its desk
both : (k m l : ℕ) (table : List ℕ) (marks wanted n : ℕ) (d : laid.Desk) → Stands k m l table 0 d → Checked (shape_checks k m l table) 0
    → Checked (asked_checks d.k d.m marks (d.k + d.m) wanted) n → Checked (shape_checks k m l table ++ asked_checks k m marks (k + m) wanted) n
both k m l table marks wanted n d S c x =
    let shape = shape_checks k m l table in
    goes shape (asked_checks k m marks (k + m) wanted) n (numbered_by shape refl) c (of_numbers S (λ k m l _. Checked (asked_checks k m marks (k + m) wanted) n) x)

pub returns-in_err-check_asked : goal.returns-in_err-check_asked
returns-in_err-check_asked c =
    let s = c.args in
    let early = shape_checks s.k s.m s.l s.table.now ++ asked_checks s.k s.m s.marks (s.k + s.m) s.wanted in
    let lent = wanted_lent_checks (desk s.k s.m s.l s.table.now s.marks) s.packets.now (s.wanted - 1) s.out.now in
    let e : c.from_residual-in_err-check_asked.result ≡ Err c.in_err-check_asked.field-0.0 = search rules in
    rw e (refused_stops early lent _ (both s.k s.m s.l s.table.now s.marks s.wanted _ _ c.lay.ensures c.in_ok-check_shape.ensures c.in_err-check_asked.ensures) refl)

pub packet_lent-requires-clause-ready : goal.packet_lent-requires-clause-ready
packet_lent-requires-clause-ready c =
    let d = c.lay.new.self in
    let n = d.k + d.m in
    remarked_ready c.args.marks d _ c.put_marks.ensures
    (none_left n c.args.marks (none_above d.k d.m c.args.marks (asked_parts d.k d.m c.args.marks n c.args.wanted c.in_ok-check_asked.ensures).0))

pub returns : goal.returns
returns c =
    let s = c.args in
    let S = c.lay.ensures in
    let early = shape_checks s.k s.m s.l s.table.now ++ asked_checks s.k s.m s.marks (s.k + s.m) s.wanted in
    let r = c.packet_lent in
    let after = r.new.out in
    opened_goes (remarked_stands s.k s.m s.l s.table.now 0 s.marks _ _ S c.put_marks.ensures) early (numbered_by early refl)
    (both s.k s.m s.l s.table.now s.marks s.wanted 0 _ S c.in_ok-check_shape.ensures c.in_ok-check_asked.ensures)
    (λ _ D. wanted_lent_checks D s.packets.now (s.wanted - 1) s.out.now) (λ D. after ≡ s.out.now) (λ D. PacketFound D s.packets.now (s.wanted - 1) after) (told r.result) r.ensures
