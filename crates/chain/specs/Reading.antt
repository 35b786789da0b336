-- What the inner functions of the reader give.
use Rattle.std.specs.Prelude.{◌≡◌, Result, IfOk, List, ℕ, ◌≤◌, length}
use Rattle.text.specs.Text.{Front, PutAt}
use Rattle.table.specs.Checks.{Checked}
use Rattle.table.specs.Refusals.{told}
use Rattle.table.specs.declared.refusals.Refusal.{Refusal}
use Rattle.card.specs.Taken.{flag}
use Rattle.card.specs.Block.{len, information, more_of}
use Rattle.chain.specs.declared.reading.Block.{Block}
use Rattle.chain.specs.Run.{BlockRun, block_checks_in, rest_checks}

-- the first block of what is left: refused by its number, or its M and its LEN
pub record BlockTold (turn : ℕ) (left : List ℕ) (r : Result Block Refusal) : Type 0 where
  pub numbered : Checked (block_checks_in turn left) (told r)
  pub tells : IfOk r (λ b. (flag b.more ≡ more_of left) × (b.length ≡ len left))

-- a run: refused by its number, or how many bytes it carries
pub record RunTold (run : List ℕ) (r : Result ℕ Refusal) : Type 0 where
  pub numbered : Checked (rest_checks 0 run) (told r)
  pub carries : IfOk r (λ count. (info : List ℕ) × BlockRun 0 run info × (count ≡ length info))

-- the information bytes of the first block of what is left, put behind what stands before end, and how many they are
abbrev pub InformationPut : List ℕ → ℕ → List ℕ → ℕ → List ℕ → Type 0
InformationPut before end left count after = (count ≡ len left) × PutAt before end (information left) after

-- a run that carries at most room bytes
abbrev pub Fits : List ℕ → ℕ → Type 0
Fits run room = (info : List ℕ) × BlockRun 0 run info × (length info ≤ room)

-- what a run carries stands at the front, and behind it what stood there before
abbrev pub CarriedTo : List ℕ → List ℕ → List ℕ → Type 0
CarriedTo run before after = (info : List ℕ) × BlockRun 0 run info × Front before info after
