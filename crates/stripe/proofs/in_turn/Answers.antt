-- Stripe after stripe is made in its part of the output; the first bad one ends it. Assumes nothing.
use Rattle.std.proofs.Common.{List, ℕ, length, ◌≡◌}
use Rattle.std.specs.Prelude.{Result}
use mathlib.Core.Path.{refl, ◌∙◌, subst}
use native.Mathlib.Omega.{arith}
use Rattle.table.specs.Desk.{sources_bytes}
use Rattle.table.specs.Desks.{desk_of}
use Rattle.table.proofs.RefusalLaws.{numbered}
use Rattle.survivors.specs.Packets.{stripe}
use Rattle.rebuild.specs.declared.Unread.{Unread}
use Rattle.rebuild.specs.Parts.{rebuild_number, rebuild_count}
use Rattle.rebuild.specs.Stages.{RebuildMade}
use Rattle.stripe.proofs.DoneLaws.{Done, done_all, lent, lent_length, lent-stripe, turn_more, turn_bad}
use Rattle.stripe.proofs.in_turn.Given.{Over}
use Rattle.stripe.proofs.in_turn.Goals as goal
use Rattle.stripe.proofs.in_turn.Goals.{After-make}

-- what the turn wrote is as long as the sources
as_long : (g : Over) (c : After-make g) → let x = c.args in length c.make.new.arg4 ≡ sources_bytes (desk_of x.desk.now)
as_long g c =
    let x = c.args in
    c.make.auto.arg4
    ∙ lent_length c.loop-t.out c.sources_bytes-w.result (sources_bytes (desk_of x.desk.now)) c.loop-t.t x.stripes c.sources_bytes-w.ensures.0 (omega arith) (c.loop-t.auto.out ∙ c.requires.out_len)

-- what the turn made of its stripe
made : (g : Over) (c : After-make g) → let x = c.args in let r = c.make in
    RebuildMade (desk_of x.desk.now) (stripe (desk_of x.desk.now) x.packets.now c.loop-t.t)
    (lent c.loop-t.out c.sources_bytes-w.result c.loop-t.t) (rebuild_number r.result) (rebuild_count r.result) r.new.arg4
made g c =
    let x = c.args in
    let D = desk_of x.desk.now in
    let n = c.bytes_of_survivors-n in
    let r = c.make in
    let own = lent-stripe D x.packets.now n.result c.loop-t.t n.ensures in
    subst (λ (z : List ℕ). RebuildMade D z (lent c.loop-t.out c.sources_bytes-w.result c.loop-t.t) (rebuild_number r.result) (rebuild_count r.result) r.new.arg4) own
    (c.requires.makes c.loop-t.t _ _ _ _ (omega arith) own r.ensures)

pub returns-in-Err : goal.returns-in-Err
returns-in-Err g c =
    let x = c.args in
    let w = c.sources_bytes-w in
    let bad = c.in-Err.bad in
    let turn = made g (goal.at.returns-in-Err g c).After-make in
    let told = subst (λ (r : Result ℕ Unread). RebuildMade (desk_of x.desk.now) (stripe (desk_of x.desk.now) x.packets.now c.loop-t.t)
    (lent c.loop-t.out w.result c.loop-t.t) (rebuild_number r) (rebuild_count r) c.make.new.arg4) c.in-Err.is turn in
    turn_bad (desk_of x.desk.now) x.stripes x.packets.now x.out.now c.loop-t.t c.loop-t.count c.loop-t.out c.loop-t.invariant (omega arith)
    (c.loop-t.auto.out ∙ c.requires.out_len) w.result w.ensures.0 _ bad.count _ (as_long g (goal.at.returns-in-Err g c).After-make) told (numbered bad.refusal)

pub loop-t-preserved : goal.loop-t-preserved
loop-t-preserved g c =
    let x = c.args in
    let w = c.sources_bytes-w in
    let turn = made g (goal.at.loop-t-preserved g c).After-make in
    let told = subst (λ (r : Result ℕ Unread). RebuildMade (desk_of x.desk.now) (stripe (desk_of x.desk.now) x.packets.now c.loop-t.t)
    (lent c.loop-t.out w.result c.loop-t.t) (rebuild_number r) (rebuild_count r) c.make.new.arg4) c.in-Ok.is turn in
    turn_more (desk_of x.desk.now) x.stripes x.packets.now x.out.now c.loop-t.t c.loop-t.count c.loop-t.out c.loop-t.invariant (omega arith)
    (c.loop-t.auto.out ∙ c.requires.out_len) w.result w.ensures.0 0 _ _ (as_long g (goal.at.loop-t-preserved g c).After-make) told refl

pub returns : goal.returns
returns g c =
    let x = c.args in
    let D = desk_of x.desk.now in
    let e : c.loop-t.t ≡ x.stripes = omega arith in
    done_all D x.stripes x.packets.now x.out.now c.loop-t.count c.loop-t.out c.requires.le_stripes.0
    (subst (λ t. Done D x.stripes x.packets.now x.out.now t c.loop-t.count c.loop-t.out) e c.loop-t.invariant)
