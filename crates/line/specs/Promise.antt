-- What the line reader promises.
use Rattle.std.specs.Prelude.{◌≡◌, ◌⊎◌, List, [], ◌∷◌, ◌++◌, ℕ, ◌<◌}
use Rattle.table.specs.Limits.{max_k, max_m, max_length}
use Rattle.table.specs.Checks.{Checks, Answered, Outside}
use Rattle.text.specs.Text.{space, line_feed}
use Rattle.text.specs.Numerals.{numeral}

-- the line that is read: `k m L`
abbrev pub line_text : ℕ → ℕ → ℕ → List ℕ
line_text k m l = numeral k ++ space ∷ (numeral m ++ space ∷ (numeral l ++ line_feed ∷ []))

-- the input is the one line `k m L`, each number 0 or one to three digits without a leading zero
pub record Line (input : List ℕ) (k m l : ℕ) : Type 0 where
  pub k_low : k < 1000
  pub m_low : m < 1000
  pub l_low : l < 1000
  pub text : input ≡ line_text k m l

-- 18: the input is not exactly one such line
abbrev pub line_checks : List ℕ → Checks
line_checks input = (18, (k m l : ℕ) → Line input k m l → ⊥) ∷ []

-- 1: k or m of the line is 0 or above its limit; 2: its length is
abbrev pub value_checks : List ℕ → Checks
value_checks input =
    (1, (k : ℕ) × (m : ℕ) × (l : ℕ) × Line input k m l × (Outside max_k k ⊎ Outside max_m m))
    ∷ (2, (k : ℕ) × (m : ℕ) × (l : ℕ) × Line input k m l × Outside max_length l)
    ∷ []

-- 18 1 2
abbrev pub sheet_checks : List ℕ → Checks
sheet_checks input = line_checks input ++ value_checks input

-- Read: the number of its checks; refused, noughts; else the three numbers of the line.
abbrev pub LineRead : Checks → List ℕ → ℕ → ℕ → ℕ → ℕ → Type 0
LineRead checks input number k m l = Answered checks number ((k ≡ 0) × (m ≡ 0) × (l ≡ 0)) (Line input k m l)
