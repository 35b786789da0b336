-- The text that the class sheet prints, as bytes, and the room that it is printed in.
use Rattle.std.specs.Prelude.{List, [], ◌∷◌, ◌++◌, ℕ}
use Rattle.text.specs.Text.{space, comma, line_feed}
use Rattle.text.specs.Numerals.{numeral}

-- each number after a comma
unfoldable pub after_commas : List ℕ → List ℕ
after_commas [] = []
after_commas (x ∷ xs) = comma ∷ (numeral x ++ after_commas xs)

-- numbers joined by commas
unfoldable pub commaed : List ℕ → List ℕ
commaed [] = []
commaed (x ∷ xs) = numeral x ++ after_commas xs

-- `ids steps`
abbrev pub header : List ℕ
header = 105 ∷ 100 ∷ 115 ∷ space ∷ 115 ∷ 116 ∷ 101 ∷ 112 ∷ 115 ∷ line_feed ∷ []

-- the line of a choice: its numbers, and the count of steps
abbrev pub choice_text : List ℕ → ℕ → List ℕ
choice_text ids count = commaed ids ++ space ∷ (numeral count ++ line_feed ∷ [])

-- `refused` and a space
abbrev pub refused : List ℕ
refused = 114 ∷ 101 ∷ 102 ∷ 117 ∷ 115 ∷ 101 ∷ 100 ∷ space ∷ []

-- the only line where the input is refused
abbrev pub refusal : ℕ → List ℕ
refusal number = refused ++ (numeral number ++ line_feed ∷ [])

-- as many digits as a packet number has at most
abbrev pub id_digits : ℕ
id_digits = 2

-- as many bytes as each piece that is printed has room in
abbrev pub room : ℕ
room = 64
