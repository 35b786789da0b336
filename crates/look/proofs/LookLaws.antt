-- Laws of a look: its checks, that what it hands out ends within its buffer, and that what is handed out is looked at. Assumes nothing.
use mathlib.Core.Path.{◌≡◌, refl, subst}
use mathlib.Core.Logic.{inl, inr}
use mathlib.Core.List.{List}
use Prim.Native.Nat.{ℕ, ◌+◌, ◌-◌, ◌≤◌, ◌<◌}
use native.Mathlib.Omega.{arith}
use native.Mathlib.Decide.{ℕ_discrete}
use borrow.Author.Tests.{eq-eqb, ne_eqb}
use denote.Ref.{Bor}
use lib.ListN as lists
use Rattle.std.specs.Prelude.{Ok, Err}
use Rattle.table.specs.Desk.{Desk, desk, sources_bytes, survivors_bytes}
use Rattle.table.specs.Desks.{Remarked, desk_of}
use Rattle.table.specs.Checks.{Checked, Answered, shape_checks, asked_checks, input_checks}
use Rattle.table.specs.Refusals.{number_of}
use Rattle.table.specs.declared.desks.Desk as laid
use Rattle.table.specs.declared.refusals.Refusal.{Refusal}
use Rattle.table.proofs.CheckLaws.{numbered_by, passed, asked_one, exact}
use Rattle.table.proofs.AnswerLaws.{answer_goes, answer_passes}
use Rattle.table.proofs.RefusalLaws.{numbered, refused_stops}
use Rattle.table.proofs.DeskLaws.{remarked_stands}
use Rattle.table.proofs.PacketLaws.{source_packet_bytes, place_ends, place-among-sources}
use Rattle.bits.specs.Sums.{count}
use Rattle.bits.proofs.SumLaws.{count_not}
use Rattle.bits.proofs.SliceLaws.{part_in}
use Rattle.checks.specs.Opening.{Opens}
use Rattle.checks.proofs.OpenLaws.{of_numbers, desk_opened}
use Rattle.look.specs.Stages.{Stands, buffers_checks, found_checks}
use Rattle.look.specs.Promise.{LookedAt, Looked, HandedOut, PartOf, look_checks}

-- not 4: both buffers have the exact length
pub buffers_exact : (D : Desk) (survivors rebuilt : List ℕ) → Checked (buffers_checks D survivors rebuilt) 0 → (lists.length survivors ≡ survivors_bytes D) × (lists.length rebuilt ≡ sources_bytes D)
buffers_exact D survivors rebuilt c =
    let p = passed (input_checks (survivors_bytes D) survivors) (input_checks (sources_bytes D) rebuilt) (numbered_by (input_checks (survivors_bytes D) survivors) refl) c in
    (exact 4 _ survivors (omega arith) p.0, exact 4 _ rebuilt (omega arith) p.1)

-- n bytes from byte `start` on end within the rebuilt sources, and within the survivors where those are told
abbrev pub EndsWithin : List ℕ → List ℕ → ℕ → ℕ → ℕ → Type 0
EndsWithin survivors rebuilt buffer start n =
    (start + n ≤ lists.length rebuilt) × ((buffer ≡ 2 → ⊥) → start + n ≤ lists.length survivors)

-- where a source stands, it ends within that buffer; among the survivors it stands no later than among all sources
pub stands_ends : (D : Desk) (i buffer start : ℕ) (survivors rebuilt : List ℕ) → Checked (buffers_checks D survivors rebuilt) 0 → i < D.k → Stands D i buffer start
    → EndsWithin survivors rebuilt buffer start D.bytes
stands_ends D i buffer start survivors rebuilt c l (inl x) =
    let e = buffers_exact D survivors rebuilt c in
    let before = count i D.present in
    let fewer : before < D.k = omega (arith, count_not i D.present) in (
      omega (arith, place-among-sources D D.present i (omega arith), part_in before D.k D.bytes (lists.length rebuilt) fewer (omega arith)),
      λ _. omega (arith, source_packet_bytes D i l, place_ends D D.present i (D.k + D.m) (omega arith) x.0),
    )
stands_ends D i buffer start survivors rebuilt c l (inr x) =
    let e = buffers_exact D survivors rebuilt c in
    (omega (arith, part_in i D.k D.bytes (lists.length rebuilt) l (omega arith)), λ n. absurd (n x.1))

-- what a look hands out ends within its buffer, refused or not
module _ (k m l : ℕ) (table : List ℕ) (marks source : ℕ) (survivors rebuilt : List ℕ) {number buffer start length : ℕ} where
  pub look_ends : LookedAt k m l table marks source survivors rebuilt number buffer start length → EndsWithin survivors rebuilt buffer start length
  look_ends t = elim (ℕ_discrete number 0) [
    | no n ↦ let z = t.refused n in (omega arith, λ _. omega arith)
    | yes e ↦
        let D = desk k m l table marks in
        let shape = shape_checks k m l table in
        let asked = asked_checks k m marks k source in
        let p = passed shape (found_checks D marks source survivors rebuilt) (numbered_by shape refl) (answer_passes (look_checks k m l table marks source survivors rebuilt) _ e t) in
        let q = passed asked (buffers_checks D survivors rebuilt) (numbered_by asked refl) p.1 in
        let s = asked_one k m marks k source q.0 in
        let r = stands_ends D (source - 1) buffer start survivors rebuilt q.1 (omega arith) (t.done e).0 in
        let n = (t.done e).1 in
        (omega (arith, r.0), λ b. omega (arith, r.1 b))
  ]

-- the part that is told, of the one buffer or of the other
module _ {k m l : ℕ} {table : List ℕ} {marks source : ℕ} {survivors rebuilt r : Bor (List ℕ)} {number buffer start length : ℕ}
    (told : LookedAt k m l table marks source survivors.now rebuilt.now number buffer start length) where
  pub looked_rebuilt : buffer ≡ 2 → PartOf rebuilt start length r → Looked k m l table marks source survivors rebuilt r
  looked_rebuilt e p = record { number = number; buffer = buffer; start = start; length = length; told = told; part = rw (eq-eqb buffer 2 e) p }

  pub looked_survivors : (buffer ≡ 2 → ⊥) → PartOf survivors start length r → Looked k m l table marks source survivors rebuilt r
  looked_survivors n p = record { number = number; buffer = buffer; start = start; length = length; told = told; part = rw (ne_eqb buffer 2 n) p }

-- the same of what is handed out, which is not refused
module _ {k m l : ℕ} {table : List ℕ} {marks source : ℕ} {survivors rebuilt r : Bor (List ℕ)} {buffer start length : ℕ}
    (told : LookedAt k m l table marks source survivors.now rebuilt.now 0 buffer start length) where
  pub handed_rebuilt : buffer ≡ 2 → PartOf rebuilt start length r → HandedOut k m l table marks source survivors rebuilt (Ok r)
  handed_rebuilt e p = record { buffer = buffer; start = start; length = length; told = told; part = rw (eq-eqb buffer 2 e) p }

  pub handed_survivors : (buffer ≡ 2 → ⊥) → PartOf survivors start length r → HandedOut k m l table marks source survivors rebuilt (Ok r)
  handed_survivors n p = record { buffer = buffer; start = start; length = length; told = told; part = rw (ne_eqb buffer 2 n) p }

-- what is handed out is looked at; refused, so is the empty part at the survivors' start
module _ {k m l : ℕ} {table : List ℕ} {marks source : ℕ} {survivors rebuilt r : Bor (List ℕ)} where
  pub handed_looked : HandedOut k m l table marks source survivors rebuilt (Ok r) → Looked k m l table marks source survivors rebuilt r
  handed_looked h = record { number = 0; buffer = h.buffer; start = h.start; length = h.length; told = h.told; part = h.part }

  pub refused_looked : {e : Refusal} → HandedOut k m l table marks source survivors rebuilt (Err e) → PartOf survivors 0 0 r → Looked k m l table marks source survivors rebuilt r
  refused_looked {e} h p =
      let z = h.told.refused (numbered e) in
      looked_survivors h.told (λ two. omega (arith, two, z.0)) (rw (z.1, z.2) p)

-- the stages of a look whose shape is accepted, over the desk that it opened
module _ {k m l : ℕ} {table : List ℕ} {d : laid.Desk} (O : Opens (shape_checks k m l table) k m l table 0 (Ok d)) (marks source : ℕ) (survivors rebuilt : List ℕ) where
  asked_opened : {n : ℕ} → Checked (asked_checks d.k d.m marks d.k source) n → Checked (asked_checks k m marks k source) n
  asked_opened {n} = of_numbers (O.accepted d refl) (λ k m l y. Checked (asked_checks k m marks k source) n)

  -- refused for its number or its marks
  pub look_asked : (e : Refusal) → Checked (asked_checks d.k d.m marks d.k source) (number_of e) → LookedAt k m l table marks source survivors rebuilt (number_of e) 0 0 0
  look_asked e c =
      let D = desk k m l table marks in
      let shape = shape_checks k m l table in
      answer_goes shape (found_checks D marks source survivors rebuilt) _ (numbered_by shape refl) O.numbered
      (refused_stops (asked_checks k m marks k source) (buffers_checks D survivors rebuilt) e (asked_opened c) (refl, refl, refl))

  -- or the buffers decide, over the desk with its marks
  pub look_goes : {d' : laid.Desk} → Checked (asked_checks d.k d.m marks d.k source) 0 → Remarked marks d d' → (number buffer start length : ℕ)
      → Answered (buffers_checks (desk_of d') survivors rebuilt) number ((buffer ≡ 0) × (start ≡ 0) × (length ≡ 0)) (Stands (desk_of d') (source - 1) buffer start × (length ≡ (desk_of d').bytes))
      → LookedAt k m l table marks source survivors rebuilt number buffer start length
  look_goes {d'} c R number buffer start length x =
      let D = desk k m l table marks in
      let shape = shape_checks k m l table in
      let asked = asked_checks k m marks k source in
      let opened : desk_of d' ≡ D = desk_opened (remarked_stands k m l table 0 marks d d' (O.accepted d refl) R) in
      answer_goes shape (found_checks D marks source survivors rebuilt) number (numbered_by shape refl) O.numbered
      (answer_goes asked (buffers_checks D survivors rebuilt) number (numbered_by asked refl) (asked_opened c)
      (subst (λ E. Answered (buffers_checks E survivors rebuilt) number ((buffer ≡ 0) × (start ≡ 0) × (length ≡ 0)) (Stands E (source - 1) buffer start × (length ≡ E.bytes))) opened x))
