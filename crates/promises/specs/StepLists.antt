-- Lists of steps: what check steps accepts, beside the orders of steps, walk, next step and rebuild. proofs/StepLists proves each statement: `AcceptedExactly` is proved as `accepted-exactly`.
use Rattle.std.specs.Prelude.{◌≡◌, refl, ◌↔◌, List, [], ◌∷◌, ℕ, ◌<◌, length}
use Rattle.table.specs.Limits.{noughts}
use Rattle.table.specs.Desk.{Desk, desk, sources_bytes}
use Rattle.table.specs.Checks.{Checked, marked_checks}
use Rattle.family.specs.Promise.{Judged}
use Rattle.code.specs.Code.{Bits, sources_of}
use Rattle.walk.specs.Walk.{Order, Stuck, Run, Whole}
use Rattle.walk.specs.Ends.{Finishes}
use Rattle.walk.specs.Read.{present_of, read_along}
use Rattle.walk.specs.Promise.{Walked, Stepped}
use Rattle.steps.specs.Steps.{parity_numbers, source_numbers, Lists, FirstBad, Complete}
use Rattle.steps.specs.Promise.{StepsChecked}
use Rattle.survivors.specs.Packets.{EncodesTo, came_source, came_parity}
use Rattle.rebuild.specs.Promise.{Rebuilt}

-- ---- What is accepted

-- Where 1 2 3 6 7 do not refuse, a list is accepted exactly when it is complete;
abbrev pub AcceptedExactly : Type 0
AcceptedExactly =
    (k m l : ℕ) (table : List ℕ) (marks : ℕ) (parities sources : List ℕ) (number place : ℕ)
    → StepsChecked k m l table marks parities sources number place
    → Checked (marked_checks k m l table marks) 0
    → (number ≡ 0) ↔ Complete (desk k m l table marks) parities sources

-- that is, when its entries are the numbers of an order of steps that finishes all missing sources.

-- an order with these numbers leads from nothing to where all missing sources are whole
pub record FinishedOrder (D : Desk) (parities sources : List ℕ) : Type 0 where
  pub order : Order
  pub lists : Lists parities sources order
  pub end : ℕ → ℕ
  pub run : Run D (λ c. 0) order end
  pub whole : Whole D end

abbrev pub CompleteIsFinished : Type 0
CompleteIsFinished = (D : Desk) (parities sources : List ℕ) → Complete D parities sources ↔ FinishedOrder D parities sources

-- Two lists are the numbers of one order only.
abbrev pub ListsOnce : Type 0
ListsOnce = (parities sources : List ℕ) (o o' : Order) → Lists parities sources o → Lists parities sources o' → o ≡ o'

-- So every order that finishes is accepted, whoever made it and in whichever order;
abbrev pub EveryFinishedOrderIsAccepted : Type 0
EveryFinishedOrderIsAccepted =
    (k m l : ℕ) (table : List ℕ) (marks : ℕ) (o : Order) (h : ℕ → ℕ) (number place : ℕ)
    → Checked (marked_checks k m l table marks) 0
    → let D = desk k m l table marks in
    Run D (λ c. 0) o h
    → Whole D h
    → StepsChecked k m l table marks (parity_numbers o) (source_numbers o) number place
    → (number ≡ 0) × (place ≡ 0)

-- with the judge's yes, every order that is run until none is left;
abbrev pub GrowingOrderIsAccepted : Type 0
GrowingOrderIsAccepted =
    (k m l : ℕ) (table : List ℕ) (marks : ℕ) (o : Order) (h : ℕ → ℕ) (number place : ℕ)
    → Judged k m table 0 1
    → Checked (marked_checks k m l table marks) 0
    → let D = desk k m l table marks in
    Run D (λ c. 0) o h
    → Stuck D h
    → StepsChecked k m l table marks (parity_numbers o) (source_numbers o) number place
    → (number ≡ 0) × (place ≡ 0)

-- walk's own, where walk says that all is whole;
abbrev pub WalksOrderIsAccepted : Type 0
WalksOrderIsAccepted =
    (k m l : ℕ) (table : List ℕ) (marks count : ℕ) (progress : List ℕ) (number place : ℕ) (x : Walked k m l table marks 0 count 1 progress)
    → let o = (x.done refl).reached.order in
    StepsChecked k m l table marks (parity_numbers o) (source_numbers o) number place
    → (number ≡ 0) × (place ≡ 0)

-- and there the pairs of next step, called again and again until it says that none is left.

-- accepted calls of next step that lead from one progress to another, where it says that none is left: the parities and the sources that they give
pub data Stepping (k m l : ℕ) (table : List ℕ) (marks : ℕ) : List ℕ → List ℕ → List ℕ → List ℕ → Type 0 where
  last : {g after : List ℕ} {source : ℕ} → Stepped k m l table marks g 0 0 source after → Stepping k m l table marks g [] [] g
  more : {g after parities sources end : List ℕ} {parity source : ℕ}
      → (parity ≡ 0 → ⊥)
      → Stepped k m l table marks g 0 parity source after
      → Stepping k m l table marks after parities sources end
      → Stepping k m l table marks g (parity ∷ parities) (source ∷ sources) end

abbrev pub NextStepsAreAccepted : Type 0
NextStepsAreAccepted =
    (k m l : ℕ) (table : List ℕ) (marks : ℕ) (parities sources end : List ℕ) (count : ℕ) (progress : List ℕ) (number place : ℕ)
    → Stepping k m l table marks noughts parities sources end
    → Walked k m l table marks 0 count 1 progress
    → StepsChecked k m l table marks parities sources number place
    → (number ≡ 0) × (place ≡ 0)

-- Where a list is accepted, walk takes the shape and the marks too, counts as many steps and says that all is whole.
abbrev pub AcceptedListHasTheCount : Type 0
AcceptedListHasTheCount =
    (k m l : ℕ) (table : List ℕ) (marks : ℕ) (parities sources : List ℕ) (place number count whole : ℕ) (progress : List ℕ)
    → StepsChecked k m l table marks parities sources 0 place
    → Walked k m l table marks number count whole progress
    → (number ≡ 0) × (length parities ≡ count) × (length sources ≡ count) × (whole ≡ 1)

-- ---- What is refused

-- Where no order finishes, no list is accepted;
abbrev pub NoneAcceptedAtAStall : Type 0
NoneAcceptedAtAStall =
    (k m l : ℕ) (table : List ℕ) (marks : ℕ) (parities sources : List ℕ) (place : ℕ)
    → ((n : ℕ) → Finishes (desk k m l table marks) n → ⊥)
    → StepsChecked k m l table marks parities sources 0 place
    → ⊥

-- an order that is run and leaves a missing source unfinished gets 24, with its length;
abbrev pub UnfinishedOrderEndsEarly : Type 0
UnfinishedOrderEndsEarly =
    (k m l : ℕ) (table : List ℕ) (marks : ℕ) (o : Order) (h : ℕ → ℕ) (number place : ℕ)
    → Checked (marked_checks k m l table marks) 0
    → let D = desk k m l table marks in
    Run D (λ c. 0) o h
    → (Whole D h → ⊥)
    → StepsChecked k m l table marks (parity_numbers o) (source_numbers o) number place
    → (number ≡ 24) × (place ≡ length o)

-- so does one that is run until none is left, where no order finishes.
abbrev pub StalledOrderEndsEarly : Type 0
StalledOrderEndsEarly =
    (k m l : ℕ) (table : List ℕ) (marks : ℕ) (o : Order) (h : ℕ → ℕ) (number place : ℕ)
    → Checked (marked_checks k m l table marks) 0
    → let D = desk k m l table marks in
    ((n : ℕ) → Finishes D n → ⊥)
    → Run D (λ c. 0) o h
    → Stuck D h
    → StepsChecked k m l table marks (parity_numbers o) (source_numbers o) number place
    → (number ≡ 24) × (place ≡ length o)

-- One place is that of the first bad step.
abbrev pub FirstBadOnce : Type 0
FirstBadOnce = (D : Desk) (parities sources : List ℕ) (place place' : ℕ) → FirstBad D parities sources place → FirstBad D parities sources place' → place ≡ place'

-- ---- What an accepted list reads

-- what an order reads from packets, step by step: the parities that came, and the present sources as they came
abbrev pub read_along_from : (D : Desk) → List ℕ → Order → Bits
read_along_from D packets o = read_along D (came_parity D packets) o (λ c. 0) (present_of D (came_source D packets))

-- the order of the lists reads these sources from the packets, every bit of each
pub record Reads (D : Desk) (parities sources packets rebuilt : List ℕ) : Type 0 where
  pub order : Order
  pub lists : Lists parities sources order
  pub reads : (c p : ℕ) → c < D.k → read_along_from D packets order c p ≡ sources_of D rebuilt c p

-- From packets that sources encode to, an accepted list reads what rebuild gives, which are these sources, after as many steps.
abbrev pub AcceptedListReadsWhatRebuildGives : Type 0
AcceptedListReadsWhatRebuildGives =
    (k m l : ℕ) (table : List ℕ) (marks : ℕ) (parities sources : List ℕ) (place : ℕ) (packets x before : List ℕ) (count : ℕ) (after : List ℕ)
    → let D = desk k m l table marks in
    StepsChecked k m l table marks parities sources 0 place
    → EncodesTo D packets x
    → Rebuilt k m l table marks packets before 0 count after
    → Reads D parities sources packets after × (after ≡ x) × (length parities ≡ count)

-- And rebuild does give them: where a list is accepted, it refuses no packets that sources encode to.
abbrev pub RebuildGivesWhereAListIsAccepted : Type 0
RebuildGivesWhereAListIsAccepted =
    (k m l : ℕ) (table : List ℕ) (marks : ℕ) (parities sources : List ℕ) (place : ℕ) (packets x before : List ℕ) (number count : ℕ) (after : List ℕ)
    → let D = desk k m l table marks in
    StepsChecked k m l table marks parities sources 0 place
    → EncodesTo D packets x
    → length before ≡ sources_bytes D
    → Rebuilt k m l table marks packets before number count after
    → (number ≡ 0) × (after ≡ x)
