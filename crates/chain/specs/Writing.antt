-- What the inner functions of the writer give.
use Rattle.std.specs.Prelude.{◌≡◌, List, ℕ, ◌+◌, length}
use Rattle.text.specs.Text.{Front, PutAt}
use Rattle.card.specs.Block.{block_of}
use Rattle.chain.specs.Cut.{cut_into}

-- a block put behind what stands before end, and the place after it
abbrev pub BlockPut : List ℕ → ℕ → ℕ → ℕ → List ℕ → ℕ → List ℕ → Type 0
BlockPut before end sequence more info next after =
    (next ≡ end + length (block_of sequence more info)) × PutAt before end (block_of sequence more info) after

-- the blocks of a packet at the front, and how many bytes they are
abbrev pub BlocksPut : ℕ → List ℕ → List ℕ → ℕ → List ℕ → Type 0
BlocksPut size packet before count after = (count ≡ length (cut_into size packet)) × Front before (cut_into size packet) after
