-- Text as bytes, and text at the front of a buffer.
use Rattle.std.specs.Prelude.{◌≡◌, List, ◌++◌, ℕ, length, drop}

abbrev pub space : ℕ
space = 32

abbrev pub comma : ℕ
comma = 44

abbrev pub line_feed : ℕ
line_feed = 10

-- after holds text at its front, and behind it what before held there
abbrev pub Front : List ℕ → List ℕ → List ℕ → Type 0
Front before text after = after ≡ text ++ drop (length text) before

-- where a text of length at stands at the front of entry, exit has more text behind it
abbrev pub PutAt : List ℕ → ℕ → List ℕ → List ℕ → Type 0
PutAt entry at more exit =
    (before text : List ℕ) → at ≡ length text → Front before text entry → Front before (text ++ more) exit
