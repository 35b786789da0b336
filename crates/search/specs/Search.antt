-- What a search over the missing sources finds.
use Rattle.std.specs.Prelude.{◌≡◌, ◌≢◌, true, false, List, ℕ, ◌+◌, ◌≤◌, ◌<◌, length}
use Rattle.bits.specs.Sums.{at}
use Rattle.table.specs.Limits.{max_k}
use Rattle.table.specs.Desk.{Desk, mark}
use Rattle.walk.specs.Walk.{Free}

-- the first n columns are missing sources in order, column n is b, and every other source below b is present
pub record Lists (k marks : ℕ) (columns : List ℕ) (n b : ℕ) : Type 0 where
  pub size : length columns ≡ max_k + 1
  pub inside : (j : ℕ) → j < n → at columns j < k
  pub gone : (j : ℕ) → j < n → mark marks (at columns j) ≡ false
  pub grow : (j : ℕ) → j < n → at columns j + 1 ≤ at columns (j + 1)
  pub first : (c : ℕ) → 0 ≤ c → c < at columns 0 → mark marks c ≡ true
  pub between : (j : ℕ) → j < n → (c : ℕ) → at columns j + 1 ≤ c → c < at columns (j + 1) → mark marks c ≡ true
  pub last : at columns n ≡ b
  pub few : n ≤ b

-- the first n columns are the missing ones of k sources, all of them
abbrev pub AllMissing : ℕ → ℕ → List ℕ → ℕ → Type 0
AllMissing k marks columns n = Lists k marks columns n k

module _ (D : Desk) (g : ℕ → ℕ) (a : ℕ) where
  open D use {k, shift}

  -- in parity a the next bit of source b stands lower than that of every other missing and unfinished source
  abbrev pub Leads : ℕ → Type 0
  Leads b = Free D g b × ((c : ℕ) → b ≢ c → Free D g c → shift a b + g b < shift a c + g c)

  -- among the sources below n no next bit stands below `low`, and that of `source`, unless it is k, stands there alone
  pub record Leading (n low source : ℕ) : Type 0 where
    pub under : (c : ℕ) → c < n → Free D g c → low ≤ shift a c + g c
    pub leads : source < k → Free D g source × (shift a source + g source ≡ low) × ((c : ℕ) → c < n → source ≢ c → Free D g c → low < shift a c + g c)

  -- source b is looked at too
  abbrev pub LooksAt : ℕ → ℕ → ℕ → ℕ → ℕ → Type 0
  LooksAt b low source low' source' = Leading b low source → Leading (b + 1) low' source'
