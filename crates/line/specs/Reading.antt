-- What the parts of the line reader find at a place of the input.
use Rattle.std.specs.Prelude.{◌≡◌, ◌⊎◌, List, ◌∷◌, ◌++◌, ℕ, suc, ◌≤◌, ◌<◌, length, drop}
use Rattle.text.specs.Numerals.{digit, numeral}

-- the digit d stands at i
pub record DigitAt (input : List ℕ) (i d : ℕ) : Type 0 where
  pub low : d < 10
  pub inside : i < length input
  pub found : drop i input ≡ digit d ∷ drop (suc i) input

-- none does
abbrev pub NoDigitAt : List ℕ → ℕ → Type 0
NoDigitAt input i = (x : ℕ) (rest : List ℕ) → x < 10 → drop i input ≡ digit x ∷ rest → ⊥

-- the numeral of value, below 1000, stands from i up to next, and none that is longer
pub record NumberAt (input : List ℕ) (i value next : ℕ) : Type 0 where
  pub low : value < 1000
  pub some : i < next
  pub within : next ≤ length input
  pub found : drop i input ≡ numeral value ++ drop next input
  pub longest : (x : ℕ) (rest : List ℕ) → x < 10 → drop next input ≡ digit x ∷ rest → (value ≡ 0) ⊎ (100 ≤ value)

-- a numeral below 1000 and a stop after it stand from i up to next
pub record TokenAt (input : List ℕ) (i stop value next : ℕ) : Type 0 where
  pub low : value < 1000
  pub within : next ≤ length input
  pub found : drop i input ≡ numeral value ++ stop ∷ drop next input

-- none do
abbrev pub NoTokenAt : List ℕ → ℕ → ℕ → Type 0
NoTokenAt input i stop = (v : ℕ) (rest : List ℕ) → v < 1000 → drop i input ≡ numeral v ++ stop ∷ rest → ⊥
