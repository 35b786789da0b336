-- The data of a decoding: the sources known so far, and what is left of each parity at hand, in rows of bits.
use Rattle.std.specs.Prelude.{◌≡◌, Bool, true, cond, List, ℕ, ◌+◌, ◌%◌, ◌≤◌, ◌<◌, take}
use Rattle.bits.specs.Bits.{bit_at, up, Tells}
use Rattle.table.specs.Desk.{Desk, sources_bytes}
use Rattle.rows.specs.Rows.{row_bits, row_in}
use Rattle.code.specs.Code.{Bits, sum_of, sources_of, Encodes}
use Rattle.walk.specs.Walk.{Gone, Whole}
use Rattle.walk.specs.Ends.{Ended}
use Rattle.walk.specs.Read.{put, read_by}
use Rattle.survivors.specs.Packets.{came, EncodesTo}
use Rattle.survivors.specs.Remainders.{source_in, InBytes}

module _ (D : Desk) where
  open D use {k, bits, shift, present}

  -- nothing is known of the missing sources
  abbrev pub Blank : List ℕ → Type 0
  Blank rows = (c p : ℕ) → Gone D c → source_in D rows c p ≡ 0

  -- bit q of source c as it stands in parity a
  abbrev pub in_row : Bits → ℕ → Bits
  in_row s c a q = up (shift a c) (s c) q

  -- of the sources s the missing ones, noughts for the others
  unfoldable pub missing_of : Bits → Bits
  missing_of s c p = cond (present c) 0 (s c p)

  -- bit q of what is left of parity a, with the missing sources taken out of its row too
  abbrev pub left_bit : List ℕ → Bits
  left_bit rows a q = (row_in rows (k + a) q + sum_of D (missing_of (source_in D rows)) a q) % 2

  -- what is left of the parities is as it was
  abbrev pub SameRests : List ℕ → List ℕ → Type 0
  SameRests rows rows' = (a q : ℕ) → row_in rows' (k + a) q ≡ row_in rows (k + a) q

  -- bit g of source b became what is left where it stands in parity a
  pub record Took (a b g : ℕ) (rows rows' : List ℕ) : Type 0 where
    pub source : source_in D rows' ≡ put (source_in D rows) b g (left_bit rows a (shift a b + g))
    pub rests : SameRests rows rows'

  -- what is left of the parities r when the sources s are taken out
  abbrev pub left : Bits → Bits → Bits
  left r s a q = (r a q + sum_of D s a q) % 2

  -- the rows have of each parity at hand what is left of it, else noughts
  abbrev pub Rests : Bits → Bits → List ℕ → Type 0
  Rests r s rows = (a q : ℕ) → q < row_bits → row_in rows (k + a) q ≡ cond (present (k + a)) (left r s a q) 0

  -- steps were made until none was left; whatever parities the rows stood for, the sources hold what was read from them
  pub record Decoded (count : ℕ) (whole : Bool) (rows rows' : List ℕ) : Type 0 where
    pub ended : Ended D count
    pub full : Tells whole (Whole D ended.end)
    pub rests : SameRests rows rows'
    pub kept : (c p : ℕ) → present c ≡ true → source_in D rows' c p ≡ source_in D rows c p
    pub past : (c p : ℕ) → Gone D c → bits ≤ p → source_in D rows' c p ≡ 0
    pub goes : (r : Bits) → Rests r (source_in D rows) rows → source_in D rows' ≡ read_by D r ended.reached.run (source_in D rows)

  -- whatever sources encode to the parities that the rows stood for are in the rows; the present sources and what is left of the parities are as they were
  pub record SolvedFor (rows rows' : List ℕ) : Type 0 where
    pub rests : SameRests rows rows'
    pub kept : (c p : ℕ) → present c ≡ true → source_in D rows' c p ≡ source_in D rows c p
    pub short : InBytes D rows → InBytes D rows'
    pub these : (r x : Bits) → Rests r (source_in D rows) rows → Encodes D r (source_in D rows) x → (c p : ℕ) → c < k → source_in D rows' c p ≡ x c p

  -- the steps that can be made; where they finish all missing sources, whatever sources encode to the parities that the rows stood for are in the rows;
  -- the present sources and what is left of the parities are as they were
  pub record Uncovered (count : ℕ) (whole : Bool) (rows rows' : List ℕ) : Type 0 where
    pub ended : Ended D count
    pub full : Tells whole (Whole D ended.end)
    pub rests : SameRests rows rows'
    pub kept : (c p : ℕ) → present c ≡ true → source_in D rows' c p ≡ source_in D rows c p
    pub short : InBytes D rows → InBytes D rows'
    pub these : whole ≡ true → (r x : Bits) → Rests r (source_in D rows) rows → Encodes D r (source_in D rows) x → (c p : ℕ) → c < k → source_in D rows' c p ≡ x c p

  -- the data half of rebuild: the steps made; whether they finish all missing sources; and then whether any sources encode to the packets, which are these
  pub record ReadBack (packets : List ℕ) (count : ℕ) (whole consistent : Bool) (sources : List ℕ) : Type 0 where
    pub ended : Ended D count
    pub full : Tells whole (Whole D ended.end)
    pub kept : (c p : ℕ) → c < k → present c ≡ true → sources_of D sources c p ≡ bit_at (came D packets c) p
    pub some : whole ≡ true → Tells consistent ((x : List ℕ) × EncodesTo D packets x)
    pub these : whole ≡ true → (x : List ℕ) → EncodesTo D packets x → x ≡ take (sources_bytes D) sources
