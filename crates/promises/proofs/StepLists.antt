-- Lists of steps, proved: each theorem is the statement of its name in specs/StepLists. Assumes nothing.
use mathlib.Core.Path.{◌≡◌, refl, sym, ap, ◌∙◌, subst}
use mathlib.Core.Logic.{inl, inr}
use mathlib.Core.List.{List, ◌++◌}
use Prim.Native.Nat.{ℕ, ◌+◌}
use native.Mathlib.Omega.{arith}
use lib.ListN.{length, length-map}
use Rattle.bits.specs.Sums.{at}
use Rattle.table.specs.Desk.{Desk, desk}
use Rattle.table.specs.Checks.{Checks, Checked, marked_checks}
use Rattle.table.proofs.CheckLaws.{numbered_by, checked_once, goes, passed, passes_zero, flag_up, flag_holds}
use Rattle.table.proofs.ShapeLaws.{shaped, marked_parts}
use Rattle.code.specs.Code.{Bits}
use Rattle.walk.specs.Walk.{Run, Whole}
use Rattle.walk.specs.Ends.{Ended}
use Rattle.walk.specs.Read.{present_of}
use Rattle.walk.proofs.Runs.{same_end}
use Rattle.walk.proofs.Ends.{finishes_ended, finished_ended, finishes_ends, one_count, whole_finishes}
use Rattle.walk.proofs.Reached.{at-noughts, run_reaches}
use Rattle.walk.proofs.ReadLaws.{read-along}
use Rattle.steps.specs.Steps.{parity_numbers, source_numbers, Complete}
use Rattle.steps.specs.Promise.{unequal_checks, follow_checks, step_list_checks, StepsChecked}
use Rattle.steps.proofs.StepLaws
use Rattle.steps.proofs.StepLaws.{numbers_long, order_led, order_complete, complete_lists, complete_finishes, led_none_bad, whole_not_early}
use Rattle.survivors.specs.Packets.{came_source, came_parity}
use Rattle.promises.specs.StepLists
use Rattle.promises.specs.StepLists.{FinishedOrder}
use Rattle.promises.proofs.Stepping.{onward}
use Rattle.promises.proofs.Demands.{growing_ended, finished_order_has_the_packets, finishing_gives_the_sources, rebuild_gives_the_only_sources}

module _ (k m l : ℕ) (table : List ℕ) (marks : ℕ) where
  abbrev D : Desk
  D = desk k m l table marks

  module _ (parities sources : List ℕ) where
    -- the checks behind those of the shape and the marks
    abbrev written : Checks
    written = unequal_checks parities sources ++ follow_checks D parities sources

    -- the shape and the marks of an accepted list are accepted, and it is complete
    shape_accepted : (place : ℕ) → StepsChecked k m l table marks parities sources 0 place → Checked (marked_checks k m l table marks) 0
    shape_accepted place x = (passed (marked_checks k m l table marks) written (numbered_by (marked_checks k m l table marks) refl) x.numbered).0

    accepted_complete : (place : ℕ) → StepsChecked k m l table marks parities sources 0 place → Complete D parities sources
    accepted_complete place x = (x.done refl).0

    -- and a complete list gets no other number
    complete_accepted : (number place : ℕ)
        → Checked (marked_checks k m l table marks) 0
        → Complete D parities sources
        → StepsChecked k m l table marks parities sources number place
        → (number ≡ 0) × (place ≡ 0)
    complete_accepted number place c C x = (z, (x.done z).1)
      where
        none_refuses : Checked written 0
        none_refuses =
            passes_zero written ((λ n. n C.as_long), (led_none_bad D parities sources C.led, (whole_not_early D parities sources C.led C.whole, tt)))

        z : number ≡ 0
        z =
            let cs = marked_checks k m l table marks in
            checked_once (step_list_checks k m l table marks parities sources) number 0 x.numbered (goes cs written 0 (numbered_by cs refl) c none_refuses)

pub accepted_exactly : StepLists.AcceptedExactly
accepted_exactly k m l table marks parities sources number place x c = (
  (λ z. accepted_complete k m l table marks parities sources place (subst (λ (n : ℕ). StepsChecked k m l table marks parities sources n place) z x)),
  (λ C. (complete_accepted k m l table marks parities sources number place c C x).0),
)

pub complete_is_finished : StepLists.CompleteIsFinished
complete_is_finished D parities sources = (to, from)
  where
    to : Complete D parities sources → FinishedOrder D parities sources
    to C = record {
      order = C.led.order;
      lists = complete_lists D parities sources C;
      end = C.progress;
      run = C.led.run;
      whole = C.whole;
    }

    from : FinishedOrder D parities sources → Complete D parities sources
    from F = rw (F.lists.parities_are, F.lists.sources_are) (order_complete D F.run F.whole)

pub lists_once : StepLists.ListsOnce
lists_once = StepLaws.lists_once

pub every_finished_order_is_accepted : StepLists.EveryFinishedOrderIsAccepted
every_finished_order_is_accepted k m l table marks o h number place c u w x =
    complete_accepted k m l table marks (parity_numbers o) (source_numbers o) number place c (order_complete (desk k m l table marks) u w) x

pub growing_order_is_accepted : StepLists.GrowingOrderIsAccepted
growing_order_is_accepted k m l table marks o h number place j c u s =
    let ended : Ended (desk k m l table marks) (length o) = record { end = h; reached = run_reaches (desk k m l table marks) u; stuck = s } in
    every_finished_order_is_accepted k m l table marks o h number place c u (growing_ended k m l table marks j c (length o) ended).0

pub walks_order_is_accepted : StepLists.WalksOrderIsAccepted
walks_order_is_accepted k m l table marks count progress number place x =
    let f = x.done refl in
    every_finished_order_is_accepted k m l table marks f.reached.order (at progress) number place x.numbered f.reached.run (flag_holds f.flagged)

pub next_steps_are_accepted : StepLists.NextStepsAreAccepted
next_steps_are_accepted k m l table marks parities sources end count progress number place u x y =
    let f = x.done refl in
    let o = onward k m l table marks (shaped k m l table (marked_parts k m l table marks x.numbered).0).k_high u in
    let run = subst (λ (h : ℕ → ℕ). Run G h o.order (at end)) (sym at-noughts) o.run in
    let whole = subst (Whole G) (sym (same_end G run o.stuck f.reached.run f.stuck).1) (flag_holds f.flagged) in
    let finished : FinishedOrder G parities sources = record { order = o.order; lists = o.lists; end = at end; run = run; whole = whole } in
    complete_accepted k m l table marks parities sources number place x.numbered ((complete_is_finished G parities sources).1 finished) y
  where
    G : Desk
    G = desk k m l table marks

pub accepted_list_has_the_count : StepLists.AcceptedListHasTheCount
accepted_list_has_the_count k m l table marks parities sources place number count whole progress x y =
    let G = desk k m l table marks in
    let z = checked_once (marked_checks k m l table marks) number 0 y.numbered (shape_accepted k m l table marks parities sources place x) in
    let C = accepted_complete k m l table marks parities sources place x in
    let F = complete_finishes G parities sources C in
    let E = finished_ended G (y.done z) in
    let e = one_count G (length parities) count (finishes_ends G (length parities) F) E in
    (z, e, sym C.as_long ∙ e, flag_up (y.done z).flagged (finishes_ended G count (length parities) E F))

pub none_accepted_at_a_stall : StepLists.NoneAcceptedAtAStall
none_accepted_at_a_stall k m l table marks parities sources place never x =
    never (length parities) (complete_finishes (desk k m l table marks) parities sources (accepted_complete k m l table marks parities sources place x))

pub unfinished_order_ends_early : StepLists.UnfinishedOrderEndsEarly
unfinished_order_ends_early k m l table marks o h number place c u not_whole x = (e, (x.refused (λ z. omega (arith, e))).early e ∙ length-map o (λ p. p.0 + 1))
  where
    G : Desk
    G = desk k m l table marks

    early : Checked (written k m l table marks (parity_numbers o) (source_numbers o)) 24
    early =
        let L = order_led G u in
        inr ((λ n. n (numbers_long o)), inr (led_none_bad G (parity_numbers o) (source_numbers o) L, inl (record { progress = h; led = L; not_whole = not_whole }, refl)))

    e : number ≡ 24
    e =
        let cs = marked_checks k m l table marks in
        checked_once (step_list_checks k m l table marks (parity_numbers o) (source_numbers o)) number 24 x.numbered
        (goes cs (written k m l table marks (parity_numbers o) (source_numbers o)) 24 (numbered_by cs refl) c early)

pub stalled_order_ends_early : StepLists.StalledOrderEndsEarly
stalled_order_ends_early k m l table marks o h number place c never u s =
    unfinished_order_ends_early k m l table marks o h number place c u (λ w. never (length o) (whole_finishes (desk k m l table marks) u w))

pub first_bad_once : StepLists.FirstBadOnce
first_bad_once = StepLaws.first_bad_once

pub accepted_list_reads_what_rebuild_gives : StepLists.AcceptedListReadsWhatRebuildGives
accepted_list_reads_what_rebuild_gives k m l table marks parities sources place packets x before count after y E r =
    let G = desk k m l table marks in
    let C = accepted_complete k m l table marks parities sources place y in
    let F = (complete_is_finished G parities sources).0 C in
    let only : x ≡ after = rebuild_gives_the_only_sources k m l table marks packets before count after r x E in
    let reads = finished_order_has_the_packets k m l table marks packets x F.order F.end E F.run F.whole in
    let along = read-along G (came_parity G packets) F.run (present_of G (came_source G packets)) in
    let same = one_count G (length parities) count (finishes_ends G (length parities) (complete_finishes G parities sources C)) (finishes_ends G count (r.done refl).0) in
    (record { order = F.order; lists = F.lists; reads = λ c p lc. ap (λ (f : Bits). f c p) (sym along) ∙ rw (sym only) (reads c p lc) }, sym only, same)

pub rebuild_gives_where_a_list_is_accepted : StepLists.RebuildGivesWhereAListIsAccepted
rebuild_gives_where_a_list_is_accepted k m l table marks parities sources place packets x before number count after y E room r =
    let F = complete_finishes (desk k m l table marks) parities sources (accepted_complete k m l table marks parities sources place y) in
    let accepted = shape_accepted k m l table marks parities sources place y in
    let given = finishing_gives_the_sources k m l table marks packets before x number count after accepted E room (λ never. never (length parities) F) r in
    (given.0, given.1)
