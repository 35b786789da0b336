-- Two answers that meet rebuild log's promise at the same input are equal. Assumes nothing.
use mathlib.Core.Path.{◌≡◌, refl, sym, ◌∙◌, subst}
use mathlib.Core.Logic.{◌⊎◌, inl, inr}
use mathlib.Core.List.{List, ◌++◌}
use Prim.Native.Nat.{ℕ, ◌*◌, ◌<◌}
use native.Mathlib.Omega.{arith}
use native.Mathlib.Decide.{ℕ_discrete}
use lib.ListN.{drop}
use Rattle.bits.specs.Bits.{part}
use Rattle.table.specs.Desk.{Desk, desk, sources_bytes}
use Rattle.table.specs.Checks.{shape_checks, stripes_checks, marks_checks}
use Rattle.table.proofs.CheckLaws.{numbered_by, checked_once, passed}
use Rattle.table.proofs.ShapeLaws.{shaped}
use Rattle.table.proofs.PacketLaws.{source_bytes_low}
use Rattle.code.proofs.CodeLaws.{desk_short}
use Rattle.walk.proofs.Ends.{finishes_ends, one_count}
use Rattle.survivors.specs.Packets.{stripe}
use Rattle.rebuild.proofs.OneAnswer.{one_source}
use Rattle.stripe.specs.Stripes.{AtStripe, GoodTold, LogSteps}
use Rattle.whole_log.specs.Stages.{log_lengths_checks}
use Rattle.whole_log.specs.Promise.{log_checks, LogRebuilt}
use Rattle.stripe.proofs.BadLaws.{at-stripe_some, at-stripe_not_eight, at-stripe_or_not, one_bad_place}
use Rattle.whole_log.proofs.PartLaws.{parts_ext}
use Rattle.whole_log.proofs.CheckParts.{log_decided, log_finishes}

module _ (D : Desk) (stripes : ℕ) (packets : List ℕ) where
  -- the number tells how many stripes are good
  pub one_good : (n good good' : ℕ) → GoodTold D stripes packets n good → GoodTold D stripes packets n good' → good ≡ good'
  one_good n good good' G G' = go (at-stripe_or_not n)
    where
      go : (n ≡ 0) ⊎ (AtStripe n ⊎ ((n ≡ 0 → ⊥) × (AtStripe n → ⊥))) → good ≡ good'
      go (inl z) = G.all z ∙ sym (G'.all z)
      go (inr (inl b)) = one_bad_place D stripes packets n n good good' (at-stripe_some b) (at-stripe_some b) (G.up_to b) (G'.up_to b)
      go (inr (inr other)) = G.none other.0 other.1 ∙ sym (G'.none other.0 other.1)

  -- and how many steps there are
  pub one_log_count : (n count count' : ℕ) → LogSteps D stripes packets n count → LogSteps D stripes packets n count' → count ≡ count'
  one_log_count n count count' S S' = elim (ℕ_discrete n 0) [
    | yes z ↦ one_count D count count' (finishes_ends D count (S.finish z)) (finishes_ends D count' (S'.finish z))
    | no nz ↦
        let told = S.told nz in
        let told' = S'.told nz in
        elim (ℕ_discrete n 8) [
          | yes e ↦ one_count D count count' (told.0 e) (told'.0 e)
          | no ne ↦ told.1 ne ∙ sym (told'.1 ne)
        ]
  ]

  -- where a stripe is good the number is 0, 9 or 10
  pub some_good : (n good t : ℕ) → GoodTold D stripes packets n good → t < good → (n ≡ 0) ⊎ AtStripe n
  some_good n good t G l = go (at-stripe_or_not n)
    where
      go : (n ≡ 0) ⊎ (AtStripe n ⊎ ((n ≡ 0 → ⊥) × (AtStripe n → ⊥))) → (n ≡ 0) ⊎ AtStripe n
      go (inl z) = inl z
      go (inr (inl b)) = inr b
      go (inr (inr other)) = absurd (omega (arith, l, G.none other.0 other.1))

module _ (k m l : ℕ) (table : List ℕ) (stripes marks : ℕ) (packets before : List ℕ) where
  abbrev D : Desk
  D = desk k m l table marks

  -- rebuild log has one answer
  pub one_log : {number good count : ℕ} {after : List ℕ} {number' good' count' : ℕ} {after' : List ℕ}
      → LogRebuilt k m l table stripes marks packets before number good count after
      → LogRebuilt k m l table stripes marks packets before number' good' count' after'
      → (number ≡ number') × (good ≡ good') × (count ≡ count') × (after ≡ after')
  one_log {number} {good} {count} {after} {number'} {good'} {count'} {after'} A B = (same, goods, counts, outputs)
    where
      same : number ≡ number'
      same = checked_once (log_checks k m l table stripes marks packets before) number number' A.numbered B.numbered

      goods : good ≡ good'
      goods = one_good D stripes packets number good good' A.told (subst (λ n. GoodTold D stripes packets n good') (sym same) B.told)

      counts : count ≡ count'
      counts = one_log_count D stripes packets number count count' A.steps (subst (λ n. LogSteps D stripes packets n count') (sym same) B.steps)

      -- some order finishes, so one family of sources only encodes to a good stripe
      each : (t : ℕ) → t < good → part after (sources_bytes D) t ≡ part after' (sources_bytes D) t
      each t low =
          let read = some_good D stripes packets number good t A.told low in
          let decided = log_decided k m l table stripes marks packets before number read A.numbered in
          let shape = shape_checks k m l table in
          let rest = stripes_checks stripes ++ marks_checks k m marks ++ log_lengths_checks D stripes packets before in
          let accepted = (passed shape rest (numbered_by shape refl) decided.0).0 in
          let F = log_finishes D stripes packets number (not_eight read) decided.1 in
          one_source D (source_bytes_low l (shaped k m l table accepted).l_low) (desk_short k m l table marks) (stripe D packets t) F.0 F.1
          (part after (sources_bytes D) t) (part after' (sources_bytes D) t) (A.written.sources t low) (B.written.sources t (omega (arith, low, goods)))
        where
          not_eight : (number ≡ 0) ⊎ AtStripe number → number ≡ 8 → ⊥
          not_eight (inl z) e = omega arith
          not_eight (inr b) e = at-stripe_not_eight b e

      outputs : after ≡ after'
      outputs =
          let behind : List ℕ → ℕ → List ℕ = λ xs g. drop (g * sources_bytes D) xs in
          let kept' = subst (λ g. behind after' g ≡ behind before g) (sym goods) B.written.kept in
          parts_ext good (sources_bytes D) after after' each (A.written.kept ∙ sym kept')
