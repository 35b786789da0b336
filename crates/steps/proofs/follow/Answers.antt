-- After each turn the first i steps are led to g; a step that is not bare is then the first bad one, and at the end the whole list is led. Assumes nothing.
use mathlib.Core.Path.{◌≡◌, refl, sym, ap, ◌∙◌, subst}
use mathlib.Core.Bool.{true≢false}
use mathlib.Core.List.{List}
use Prim.Native.Nat.{ℕ, ◌+◌, ◌-◌}
use lib.ListN.{length, length-set}
use native.Mathlib.Omega.{arith}
use borrow.Author.Rules.{rules}
use Rattle.bits.specs.Sums.{at}
use Rattle.table.specs.Desks.{desk_of}
use Rattle.table.proofs.PacketLaws.{source_bits_high}
use Rattle.walk.specs.Compute.{full_b, whole_b}
use Rattle.walk.proofs.Computed.{at-bump, whole_of, of_whole}
use Rattle.steps.specs.Steps.{Led}
use Rattle.steps.proofs.StepLaws.{led_fits, following_none, following_more, bare_room, follow_bad, follow_whole, follow_early}
use Rattle.steps.proofs.follow.Goals as goal
use Rattle.steps.proofs.follow.Goals.{After-is_whole}

pub loop-i-init : goal.loop-i-init
loop-i-init c = let x = c.args in following_none (desk_of x.desk.now) x.parities.now x.sources.now

pub is_bare-requires : goal.is_bare-requires
is_bare-requires c = record { fits = led_fits (desk_of c.args.desk.now) c.args.parities.now c.args.sources.now c.loop-i.invariant.led }

pub returns-then-not-is_bare : goal.returns-then-not-is_bare
returns-then-not-is_bare c =
    follow_bad (desk_of c.args.desk.now) c.args.parities.now c.args.sources.now c.loop-i.i _ _ (omega arith) (omega arith) (search rules) c.loop-i.invariant.led
    (c.is_bare.ensures.not_so c.if-not-is_bare.true)

pub loop-i-preserved : goal.loop-i-preserved
loop-i-preserved c =
    let x = c.args in
    let w = c.args.desk.now.within in
    let i = c.loop-i.i in
    let g = c.loop-i.g in
    let b = at x.sources.now i - 1 in
    let bare = c.is_bare.ensures.so c.if-not-is_bare.false in
    let room = bare_room (desk_of x.desk.now) (at g) (at x.parities.now i) (at x.sources.now i) w.k_high (source_bits_high x.desk.now.length w.l_high) bare in
    let raised = at-bump g b (omega (arith, room, c.loop-i.invariant.size)) in
    following_more (desk_of x.desk.now) x.parities.now x.sources.now c.loop-i.invariant (omega arith) (omega (arith, c.requires.parities_len)) bare _
    (omega (arith, ap length c.raised-g.ensures, length-set g b (at g b + 1), c.loop-i.invariant.size))
    (λ q. omega (arith, ap (λ (h : List ℕ). at h q) c.raised-g.ensures, ap (λ (f : ℕ → ℕ). f q) raised))

-- at the end the whole list is led
to_end : (c : After-is_whole) → let x = c.args in
    Led (desk_of x.desk.now) x.parities.now x.sources.now (length x.parities.now) (at c.loop-i.g)
to_end c =
    let x = c.args in
    let e : c.loop-i.i ≡ length x.parities.now = omega arith in
    subst (λ (n : ℕ). Led (desk_of x.desk.now) x.parities.now x.sources.now n (at c.loop-i.g)) e c.loop-i.invariant.led

pub returns-then-is_whole : goal.returns-then-is_whole
unfolding whole_b full_b
returns-then-is_whole c =
    let x = c.args in
    let D = desk_of x.desk.now in
    let L = to_end (goal.at.returns-then-is_whole c).After-is_whole in
    let whole = whole_of D (at c.loop-i.g) (led_fits D x.parities.now x.sources.now L) (sym c.is_whole.ensures ∙ c.if-is_whole.true) in
    follow_whole D x.parities.now x.sources.now L c.requires.parities_len 0 0 refl refl whole

pub returns-else-is_whole : goal.returns-else-is_whole
unfolding whole_b full_b
returns-else-is_whole c =
    let x = c.args in
    let D = desk_of x.desk.now in
    let told = sym c.is_whole.ensures ∙ c.if-is_whole.false in
    follow_early D x.parities.now x.sources.now (to_end (goal.at.returns-else-is_whole c).After-is_whole) _ _ (omega arith) (omega arith) (λ w. true≢false (sym (of_whole D (at c.loop-i.g) w) ∙ told))
