-- A logbook at once, proved: each theorem is the statement of its name in specs/Logs. Assumes nothing.
use mathlib.Core.Path.{◌≡◌, refl, sym, subst}
use mathlib.Core.Logic.{◌⊎◌, inl, inr}
use mathlib.Core.List.{List, ◌++◌}
use Prim.Native.Nat.{ℕ, ◌*◌, ◌≤◌, ◌<◌}
use native.Mathlib.Omega.{arith}
use native.Mathlib.Decide.{ℕ_discrete, dec_lt}
use lib.ListN.{length, drop}
use Rattle.bits.specs.Bits.{part}
use Rattle.table.specs.Desk.{Desk, desk, sources_bytes, survivors_bytes}
use Rattle.table.specs.Checks.{Checks, Checked, shape_checks, stripes_checks, marks_checks, marked_checks}
use Rattle.table.proofs.CheckLaws.{numbered_by, passed, goes, rest_decides, striped, lengths_exact}
use Rattle.code.proofs.CodeLaws.{desk_short}
use Rattle.walk.specs.Ends.{Finishes}
use Rattle.walk.proofs.Ends.{some_finishes}
use Rattle.survivors.specs.Packets.{packets_checks, stripe}
use Rattle.survivors.proofs.CameLaws.{encoded_not_stray}
use Rattle.rebuild.specs.Stages.{decode_checks}
use Rattle.rebuild.specs.Promise.{rebuild_checks}
use Rattle.stripe.specs.Stripes.{AtStripe, Good, BadAt, GoodTold, log_decode_checks}
use Rattle.whole_log.specs.Stages.{log_lengths_checks}
use Rattle.whole_log.specs.Promise.{log_checks, LogRebuilt}
use Rattle.stripe.proofs.BadLaws.{at-stripe_some, at-stripe_not_eight, at-stripe_or_not, bad_numbered, good_numbered}
use Rattle.whole_log.proofs.PartLaws.{part_length}
use Rattle.whole_log.proofs.CheckParts.{log_finishes}
use Rattle.whole_log.proofs.OneAnswer.{some_good}
use Rattle.promises.specs.Demands.{shape_and_lengths}
use Rattle.promises.specs.Logs
use Rattle.promises.specs.Logs.{log_shape_and_lengths, StripeRebuilt, OneRebuildAStripe}
use Rattle.promises.proofs.Demands.{front_accepted, decoded, encoded_decodes}

pub good_at_most : Logs.GoodAtMost
good_at_most k m l table stripes marks packets before number good count after x = go (at-stripe_or_not number)
  where
    go : (number ≡ 0) ⊎ (AtStripe number ⊎ ((number ≡ 0 → ⊥) × (AtStripe number → ⊥))) → good ≤ stripes
    go (inl z) = omega (arith, x.told.all z)
    go (inr (inl b)) = omega (arith, (x.told.up_to b).inside)
    go (inr (inr other)) = omega (arith, x.told.none other.0 other.1)

module _ (k m l : ℕ) (table : List ℕ) (stripes marks : ℕ) (packets before : List ℕ) where
  abbrev D : Desk
  D = desk k m l table marks

  abbrev front : Checks
  front = log_shape_and_lengths k m l table stripes marks packets before

  module _ (c : Checked front 0) where
    -- what it says that each part of the front passes
    record Passed : Type 0 where
      some : 1 ≤ stripes
      marked : Checked (marked_checks k m l table marks) 0
      input : length packets ≡ stripes * survivors_bytes D
      output : length before ≡ stripes * sources_bytes D

    parts : Passed
    parts =
        let shape = shape_checks k m l table in
        let marking = marks_checks k m marks in
        let lengths = log_lengths_checks D stripes packets before in
        let p = passed shape (stripes_checks stripes ++ marking ++ lengths) (numbered_by shape refl) c in
        let q = passed (stripes_checks stripes) (marking ++ lengths) (numbered_by (stripes_checks stripes) refl) p.1 in
        let r = passed marking lengths (numbered_by marking refl) q.1 in
        let exact = lengths_exact (stripes * survivors_bytes D) (stripes * sources_bytes D) packets before r.1 in
        record { some = (striped stripes q.0).0; marked = goes shape marking 0 (numbered_by shape refl) p.0 r.0; input = exact.0; output = exact.1 }

    -- then 8, 9 and 10 decide
    log_decodes : (n : ℕ) → Checked (log_checks k m l table stripes marks packets before) n → Checked (log_decode_checks D stripes packets) n
    log_decodes n x = rest_decides front (log_decode_checks D stripes packets) n (numbered_by front refl) c x

    log_numbered : (n : ℕ) → Checked (log_decode_checks D stripes packets) n → Checked (log_checks k m l table stripes marks packets before) n
    log_numbered n x = goes front (log_decode_checks D stripes packets) n (numbered_by front refl) c x

    module _ (t : ℕ) (low : t < stripes) where
      abbrev mine : List ℕ
      mine = part before (sources_bytes D) t

      -- a stripe alone passes rebuild's checks before 8, and 8, 9 and 10 decide of it
      alone : Checked (shape_and_lengths k m l table marks (stripe D packets t) mine) 0
      alone =
          let long = part_length packets stripes (survivors_bytes D) t parts.input low in
          let room = part_length before stripes (sources_bytes D) t parts.output low in
          front_accepted k m l table marks (stripe D packets t) mine parts.marked long room

      stripe_decodes : (n : ℕ) → Checked (rebuild_checks k m l table marks (stripe D packets t) mine) n → Checked (decode_checks D (stripe D packets t)) n
      stripe_decodes n x = decoded k m l table marks (stripe D packets t) mine alone n x

      stripe_numbered : (n : ℕ) → Checked (decode_checks D (stripe D packets t)) n → Checked (rebuild_checks k m l table marks (stripe D packets t) mine) n
      stripe_numbered n x =
          let ahead = shape_and_lengths k m l table marks (stripe D packets t) mine in
          goes ahead (decode_checks D (stripe D packets t)) n (numbered_by ahead refl) alone x

    module _ (number good count : ℕ) (after : List ℕ) where
      abbrev Log : Type 0
      Log = LogRebuilt k m l table stripes marks packets before number good count after

      -- what rebuild gives of stripe t alone
      abbrev Alone : ℕ → ℕ → ℕ → List ℕ → Type 0
      Alone t n c sources = StripeRebuilt k m l table marks packets before t n c sources

      module _ (x : Log) where
        -- where a stripe is good some order finishes, with the count that is told when done
        finishing : (t : ℕ) → t < good → (n : ℕ) × (number ≡ 0 → n ≡ count) × Finishes D n
        finishing t low = go (some_good D stripes packets number good t x.told low)
          where
            go : (number ≡ 0) ⊎ AtStripe number → (n : ℕ) × (number ≡ 0 → n ≡ count) × Finishes D n
            go (inl z) = (count, (λ _. refl), x.steps.finish z)
            go (inr b) =
                let F = log_finishes D stripes packets number (at-stripe_not_eight b) (log_decodes number x.numbered) in
                (F.0, (λ z. absurd (at-stripe_some b z)), F.1)

        good_one : (t : ℕ) → t < good → (n : ℕ) × (number ≡ 0 → n ≡ count) × Alone t 0 n (part after (sources_bytes D) t)
        good_one t low =
            let F = finishing t low in
            let X = x.written.sources t low in
            let none = encoded_decodes k m l table marks (stripe D packets t) (part after (sources_bytes D) t) X (λ never. never F.0 F.2) in
            let inside : t < stripes = omega (arith, low, good_at_most k m l table stripes marks packets before number good count after x) in
            (F.0, F.1, record { numbered = stripe_numbered t inside 0 none; refused = λ n. absurd (n refl); done = λ _. (F.2, X) })

        bad_one : good < stripes → Alone good number count (part before (sources_bytes D) good)
        bad_one low = record {
          numbered = stripe_numbered good low number (of_stripe (log_decodes number x.numbered));
          refused = λ _. (refl, x.steps.told refuses);
          done = λ z. absurd (refuses z);
        }
          where
            refuses : number ≡ 0 → ⊥
            refuses z = omega (arith, low, x.told.all z)

            -- its number is the first bad stripe's own
            of_stripe : Checked (log_decode_checks D stripes packets) number → Checked (decode_checks D (stripe D packets good)) number
            of_stripe (inl d) = inl d
            of_stripe (inr (finishes, inl d)) = inr (finishes, (x.told.up_to (inl d.1)).own)
            of_stripe (inr (finishes, inr (_, inl d))) = inr (finishes, (x.told.up_to (inr d.1)).own)
            of_stripe (inr (_, inr (_, inr z))) = absurd (refuses z.1)

      module _ (x : OneRebuildAStripe k m l table stripes marks packets before number good count after) (all : number ≡ 0 → good ≡ stripes) (fewer : (number ≡ 0 → ⊥) → good < stripes) where
        -- what rebuild reads is good
        read_good : (t : ℕ) → t < good → Good D stripes packets t
        read_good t low =
            let sources = part after (sources_bytes D) t in
            let X = ((x.good_ones t low).2.done refl).1 in
            record { tidy = encoded_not_stray D (stripe D packets t) sources (desk_short k m l table marks sources) X; some = (sources, X) }

        -- the number, how many stripes are good, and the steps
        abbrev Told : Type 0
        Told = Checked (log_decode_checks D stripes packets) number × GoodTold D stripes packets number good × (number ≡ 0 → Finishes D count)

        -- done: every stripe is good
        when_done : number ≡ 0 → Told
        when_done z =
            let first = x.good_ones 0 (omega (arith, all z, parts.some)) in
            let F : Finishes D count = subst (Finishes D) (first.1 z) (first.2.done refl).0 in
            let none = good_numbered D stripes packets count F (λ t low. read_good t (omega (arith, low, all z))) in (
              subst (Checked (log_decode_checks D stripes packets)) (sym z) none,
              record { all = all; up_to = λ b. absurd (at-stripe_some b z); none = λ n. absurd (n z) },
              λ _. F,
            )

        -- refused: the stripe behind the good ones is the first bad one, or none can be read
        when_refused : (number ≡ 0 → ⊥) → Told
        when_refused refuses = go (stripe_decodes good (fewer refuses) number (x.bad_one (fewer refuses)).numbered)
          where
            stalled : ((n : ℕ) → Finishes D n → ⊥) → good ≡ 0
            stalled never = elim (dec_lt 0 good) [ yes low ↦ absurd (never _ ((x.good_ones 0 low).2.done refl).0) | no n ↦ omega arith ]

            bad : AtStripe number → (((n : ℕ) → Finishes D n → ⊥) → ⊥) → Checked (packets_checks D (stripe D packets good)) number → Told
            bad here finishes own =
                let F = some_finishes D finishes in
                let B : BadAt D stripes packets number good = record { inside = fewer refuses; own = own; before = read_good } in
                (bad_numbered D stripes packets F.0 F.1 number good here B, record { all = all; up_to = λ _. B; none = λ _ n. absurd (n here) }, λ z. absurd (refuses z))

            go : Checked (decode_checks D (stripe D packets good)) number → Told
            go (inl d) = (inl d, record { all = all; up_to = λ b. absurd (at-stripe_not_eight b d.1); none = λ _ _. stalled d.0 }, λ z. absurd (refuses z))
            go (inr (finishes, inl d)) = bad (inl d.1) finishes (inl d)
            go (inr (finishes, inr (tidy, inl d))) = bad (inr d.1) finishes (inr (tidy, inl d))
            go (inr (_, inr (_, inr z))) = absurd (refuses z.1)

        made_one_by_one : length after ≡ length before → drop (good * sources_bytes D) after ≡ drop (good * sources_bytes D) before → Told → Log
        made_one_by_one size kept told = record {
          numbered = log_numbered number told.0;
          told = told.1;
          steps = record { finish = told.2; told = λ refuses. ((x.bad_one (fewer refuses)).refused refuses).1 };
          written = record { size = size; sources = λ t low. ((x.good_ones t low).2.done refl).1; kept = kept };
        }

pub not_all_good_exactly : Logs.NotAllGoodExactly
not_all_good_exactly k m l table stripes marks packets before number good count after x c =
    ((λ low z. omega (arith, low, x.told.all z)), λ refuses. go refuses (at-stripe_or_not number))
  where
    go : (number ≡ 0 → ⊥) → (number ≡ 0) ⊎ (AtStripe number ⊎ ((number ≡ 0 → ⊥) × (AtStripe number → ⊥))) → good < stripes
    go refuses (inl z) = absurd (refuses z)
    go refuses (inr (inl b)) = (x.told.up_to b).inside
    go refuses (inr (inr other)) = omega (arith, x.told.none other.0 other.1, (parts k m l table stripes marks packets before c).some)

pub log_is_one_rebuild_a_stripe : Logs.LogIsOneRebuildAStripe
log_is_one_rebuild_a_stripe k m l table stripes marks packets before number good count after x c = record {
  good_ones = good_one k m l table stripes marks packets before c number good count after x;
  bad_one = bad_one k m l table stripes marks packets before c number good count after x;
}

pub one_rebuild_a_stripe_is_the_log : Logs.OneRebuildAStripeIsTheLog
one_rebuild_a_stripe_is_the_log k m l table stripes marks packets before number good count after c x all fewer size kept =
    made_one_by_one k m l table stripes marks packets before c number good count after x all fewer size kept (elim (ℕ_discrete number 0) [
      | yes z ↦ when_done k m l table stripes marks packets before c number good count after x all fewer z
      | no refuses ↦ when_refused k m l table stripes marks packets before c number good count after x all fewer refuses
    ])
