-- The set-up of a decoding, and what its end decides. Assumes nothing.
use mathlib.Core.Path.{◌≡◌, refl, sym, ap, ◌∙◌}
use mathlib.Core.Bool.{Bool, true, false, cond, not}
use mathlib.Core.List.{List}
use Prim.Native.Nat.{ℕ, ◌+◌, ◌-◌, ◌*◌, ◌%◌, ◌^◌, ◌≤◌, ◌<◌}
use native.Mathlib.Omega.{arith}
use native.Mathlib.Decide.{dec_lt}
use lib.ListN.{length, take}
use lib.Seq.{take_all}
use Rattle.bits.specs.Bits.{bit_at, Bytes, Tells}
use Rattle.bits.proofs.SumLaws.{sum_nought}
use Rattle.bits.proofs.UpLaws.{up_high}
use Rattle.table.specs.Desk.{Desk, mark, sources_bytes, survivors_bytes}
use Rattle.table.specs.Desks.{desk_of}
use Rattle.table.specs.declared.desks.Desk as laid
use Rattle.table.proofs.Bounds.{Bounded, shifted_fits}
use Rattle.table.proofs.MarkLaws.{shared_mark}
use Rattle.rows.specs.Rows.{row_bits, row_in}
use Rattle.rows.proofs.RowLaws.{row_past}
use Rattle.code.specs.Code.{Bits, sources_of, sum_of, parity, Short}
use Rattle.code.proofs.CodeLaws.{list_source, sum_of_same}
use Rattle.walk.specs.Walk.{Gone, Held}
use Rattle.walk.proofs.ReadLaws.{parity_same, only}
use Rattle.survivors.specs.Packets.{came, came_parity, EncodesTo}
use Rattle.survivors.specs.Remainders.{marked_of, source_in, sources_in, InBytes, Placed, AddedToRests, NoRest}
use Rattle.survivors.proofs.RestLaws.{marked_on, marked_off, source_in_lem}
use Rattle.survivors.proofs.SourceLaws.{sources_ext}
use Rattle.survivors.proofs.SourcesIn.{sources_in-length, sources_in_bytes, sources_in-source}
use Rattle.survivors.proofs.PlaceLaws.{came-parity_lt, came-parity_past, placed_kept, placed_blank, placed_short, placed_rest}
use Rattle.survivors.proofs.CameLaws.{encodes_bits, bits_encode}
use Rattle.decode.specs.Data.{Blank, missing_of, left, Rests, Decoded, Uncovered, ReadBack}
use Rattle.decode.proofs.MissingSums.{missing-present, missing-gone, left-all}

-- what the steps read is uncovered
pub decoded_uncovered : (D : Desk) → Bounded D → (count : ℕ) (whole : Bool) (rows rows' : List ℕ) → Blank D rows → Decoded D count whole rows rows' → Uncovered D count whole rows rows'
decoded_uncovered D W count whole rows rows' blank X = record {
  ended = X.ended;
  full = X.full;
  rests = X.rests;
  kept = X.kept;
  short = short;
  these = λ w r x R E c p lc. ap (λ (f : Bits). f c p) (X.goes r R) ∙ only D r (source_in D rows) blank X.ended.reached.run (X.full.so w) x E c p lc;
}
  where
    short : InBytes D rows → InBytes D rows'
    short before c p lc l = sym (source_in_lem D rows' c p lc) ∙ go (D.present c) refl
      where
        go : (v : Bool) → D.present c ≡ v → source_in D rows' c p ≡ 0
        go true e = X.kept c p e ∙ source_in_lem D rows c p lc ∙ before c p lc l
        go false e = X.past c p (lc, e) (omega (arith, W.fits))

-- no sum of sources that stay within their bytes stands past a row's end
sum_in_row : (D : Desk) → Bounded D → (rows : List ℕ) → InBytes D rows → (a q : ℕ) → a < D.m → row_bits ≤ q → sum_of D (source_in D rows) a q ≡ 0
unfolding sum_of
sum_in_row D W rows short a q la l =
    sum_nought D.k _ (λ c lc.
    up_high (D.shift a c) (source_in D rows c) (8 * D.bytes) q (λ p lp. source_in_lem D rows c p lc ∙ short c p lc lp) (omega (arith, shifted_fits D W a c la lc)))

module _ (d : laid.Desk) (packets : List ℕ) where
  abbrev D : Desk
  D = desk_of d

  abbrev k : ℕ
  k = d.k

  abbrev present : ℕ → Bool
  present = mark d.marks

  -- what came of the parities
  abbrev r : Bits
  r = came_parity D packets

  -- the marks turned over
  abbrev others : ℕ
  others = 18446744073709551615 - d.marks

  -- the present sources are all there are, if nothing is known of the missing ones
  marked_present : (x : Bits) → ((c p : ℕ) → Gone D c → x c p ≡ 0) → (c p : ℕ) → c < k → marked_of d.marks x c p ≡ x c p
  marked_present x blank c p lc = go (present c) refl
    where
      go : (v : Bool) → present c ≡ v → marked_of d.marks x c p ≡ x c p
      go true e = marked_on d.marks x c p e
      go false e = marked_off d.marks x c p e ∙ sym (blank c p (lc, e))

  -- the others are the missing ones
  marked_missing : d.marks < 2 ^ 64 → k ≤ 64 → (x : Bits) (c p : ℕ) → c < k → marked_of others x c p ≡ missing_of D x c p
  marked_missing fits few x c p lc = go (present c) refl
    where
      turned : mark others c ≡ not (present c)
      turned = shared_mark 64 others d.marks (omega arith) c (omega arith)

      go : (v : Bool) → present c ≡ v → marked_of others x c p ≡ missing_of D x c p
      go true e = marked_off others x c p (turned ∙ ap not e) ∙ sym (missing-present D x c p e)
      go false e = marked_on others x c p (turned ∙ ap not e) ∙ sym (missing-gone D x c p e)

  -- when the packets are in their rows, and the present sources added, nothing is known of the missing ones
  pub known_blank : Bounded D → (rows₀ rows₁ : List ℕ) → Placed D packets rows₀ → AddedToRests D present (sum_of D (marked_of d.marks (source_in D rows₀))) rows₀ rows₁ → Blank D rows₁
  known_blank W rows₀ rows₁ P A c p g =
      source_in_lem D rows₁ c p g.0 ∙ A.source c p g.0 ∙ sym (source_in_lem D rows₀ c p g.0) ∙ placed_blank D packets W rows₀ P c p g.0 g.1

  -- what is known at the end, of the rows and of the packets
  pub record End (count : ℕ) (whole : Bool) (rows : List ℕ) : Type 0 where
    pub short : InBytes D rows
    pub read : Bytes packets → length packets ≡ survivors_bytes D → (consistent : Bool) → Tells consistent ((c p : ℕ) → k ≤ c → c < k + d.m → row_in rows c p ≡ 0)
        → ReadBack D packets count whole consistent (sources_in D rows)
    pub nothing : ((c p : ℕ) → k ≤ c → c < k + d.m → row_in rows c p ≡ 0) → NoRest D rows

  module _ (W : Bounded D) (fits : d.marks < 2 ^ 64) (none : (a : ℕ) → present (k + a) ≡ true → a < d.m) (short : (x : List ℕ) → Short D x)
      (rows₀ rows₁ rows₂ rows₃ : List ℕ) (P : Placed D packets rows₀) (A : AddedToRests D present (sum_of D (marked_of d.marks (source_in D rows₀))) rows₀ rows₁)
      (count : ℕ) (whole : Bool) (U : Uncovered D count whole rows₁ rows₂) (B : AddedToRests D present (sum_of D (marked_of others (source_in D rows₂))) rows₂ rows₃) where
    -- the sources when the packets are in their rows, when the missing ones are uncovered, and at the end
    abbrev s₁ : Bits
    s₁ = source_in D rows₁

    abbrev s₂ : Bits
    s₂ = source_in D rows₂

    abbrev s₃ : Bits
    s₃ = source_in D rows₃

    same₁ : (c p : ℕ) → c < k → s₁ c p ≡ source_in D rows₀ c p
    same₁ c p lc = source_in_lem D rows₁ c p lc ∙ A.source c p lc ∙ sym (source_in_lem D rows₀ c p lc)

    same₃ : (c p : ℕ) → c < k → s₃ c p ≡ s₂ c p
    same₃ c p lc = source_in_lem D rows₃ c p lc ∙ B.source c p lc ∙ sym (source_in_lem D rows₂ c p lc)

    kept₁ : (c p : ℕ) → c < k → present c ≡ true → s₁ c p ≡ bit_at (came D packets c) p
    kept₁ c p lc e = same₁ c p lc ∙ placed_kept D packets W rows₀ P c p lc e

    blank₁ : Blank D rows₁
    blank₁ = known_blank W rows₀ rows₁ P A

    short₁ : InBytes D rows₁
    short₁ c p lc l = A.source c p lc ∙ placed_short D packets W rows₀ P c p lc l

    short₃ : InBytes D rows₃
    short₃ c p lc l = B.source c p lc ∙ U.short short₁ c p lc l

    -- with the present sources added to each row at hand, the rows are what is left of the parities
    rests₁ : Rests D r s₁ rows₁
    rests₁ a q lq =
        A.rest a q lq
        ∙ ap (λ x. (x + cond (present (k + a)) (sum_of D (marked_of d.marks (source_in D rows₀)) a q) 0) % 2) (placed_rest D packets W rows₀ P a q lq)
        ∙ ap (λ x. (cond (present (k + a)) (r a q) 0 + cond (present (k + a)) x 0) % 2) all ∙ go (present (k + a))
      where
        all : sum_of D (marked_of d.marks (source_in D rows₀)) a q ≡ sum_of D s₁ a q
        all = sum_of_same D (marked_of d.marks (source_in D rows₀)) s₁ (λ c p lc.
            marked_present (source_in D rows₀) (λ b o g. placed_blank D packets W rows₀ P b o g.0 g.1) c p lc ∙ sym (same₁ c p lc)) a q

        go : (v : Bool) → (cond v (r a q) 0 + cond v (sum_of D s₁ a q) 0) % 2 ≡ cond v (left D r s₁ a q) 0
        go true = refl
        go false = refl

    -- and they still are when the missing ones are added too
    rests₃ : Rests D r s₃ rows₃
    rests₃ a q lq =
        B.rest a q lq
        ∙ ap (λ x. (x + cond (present (k + a)) (sum_of D (marked_of others s₂) a q) 0) % 2) (U.rests a q ∙ rests₁ a q lq)
        ∙ ap (λ x. (cond (present (k + a)) (left D r s₁ a q) 0 + cond (present (k + a)) x 0) % 2) missing ∙ go (present (k + a))
      where
        missing : sum_of D (marked_of others s₂) a q ≡ sum_of D (missing_of D s₂) a q
        missing = sum_of_same D (marked_of others s₂) (missing_of D s₂) (marked_missing fits (omega (arith, W.k_high)) s₂) a q

        both : (left D r s₁ a q + sum_of D (missing_of D s₂) a q) % 2 ≡ left D r s₃ a q
        both = sym (left-all D r s₁ s₂ blank₁ U.kept a q) ∙ ap (λ x. (r a q + x) % 2) (sym (sum_of_same D s₃ s₂ same₃ a q))

        go : (v : Bool) → (cond v (left D r s₁ a q) 0 + cond v (sum_of D (missing_of D s₂) a q) 0) % 2 ≡ cond v (left D r s₃ a q) 0
        go true = both
        go false = refl

    abbrev out : List ℕ
    out = sources_in D rows₃

    out_bits : (c p : ℕ) → c < k → sources_of D out c p ≡ s₃ c p
    out_bits = sources_in-source D rows₃ short₃

    all_of_it : take (sources_bytes D) out ≡ out
    all_of_it = take_all (sources_bytes D) out (omega (arith, sources_in-length D rows₃))

    -- nothing is left
    abbrev Clear : Type 0
    Clear = (c p : ℕ) → k ≤ c → c < k + d.m → row_in rows₃ c p ≡ 0

    module _ (w : whole ≡ true) where
      -- what was uncovered is the only candidate
      candidate : (x : List ℕ) → EncodesTo D packets x → (c p : ℕ) → c < k → s₃ c p ≡ sources_of D x c p
      candidate x X c p lc = same₃ c p lc ∙ U.these w r (sources_of D x) rests₁ (encodes_bits D packets x (short x) s₁ kept₁ X) c p lc

      read_these : (x : List ℕ) → EncodesTo D packets x → x ≡ take (sources_bytes D) out
      read_these x X =
          sources_ext D x out W.some X.are_bytes (sources_in_bytes D rows₃) X.size (sources_in-length D rows₃)
          (λ c q lc. sym (out_bits c q lc ∙ candidate x X c q lc)) ∙ sym all_of_it

      -- if sources encode to the packets, nothing is left
      encoded_clear : (x : List ℕ) → EncodesTo D packets x → Clear
      encoded_clear x X c p lo hi = elim (dec_lt p row_bits) [
        | yes l ↦ let e : c ≡ k + (c - k) = omega arith in ap (λ i. row_in rows₃ i p) e ∙ rests₃ (c - k) p l ∙ go (c - k) (present (k + (c - k))) refl
        | no l ↦ row_past rows₃ c p (omega arith)
      ]
        where
          go : (a : ℕ) (v : Bool) → present (k + a) ≡ v → cond v (left D r s₃ a p) 0 ≡ 0
          go a false e = refl
          go a true e =
              let same = parity_same D s₃ (sources_of D x) (candidate x X) a p in
              omega (arith, (encodes_bits D packets x (short x) s₁ kept₁ X).made a p (none a e, e) ∙ sym same)

    -- if nothing is left, what was uncovered encodes to them
    clear_encoded : Bytes packets → length packets ≡ survivors_bytes D → Clear → EncodesTo D packets out
    clear_encoded hp len z = bits_encode D packets out (short out) s₁ kept₁ hp len (sources_in-length D rows₃) (sources_in_bytes D rows₃) record {
      source = list_source D out (short out);
      kept = λ c p lc e. sym (out_bits c p lc ∙ same₃ c p lc ∙ U.kept c p e);
      made = λ a q h. made a q h ∙ parity_same D s₃ (sources_of D out) (λ c p lc. sym (out_bits c p lc)) a q;
    }
      where
        made : (a q : ℕ) → Held D a → r a q ≡ parity D s₃ a q
        made a q h = elim (dec_lt q row_bits) [
          | yes l ↦
              let e : left D r s₃ a q ≡ 0 = sym (rests₃ a q l ∙ rw h.1) ∙ z (k + a) q (omega arith) (omega (arith, h.0)) in
              omega (arith, e, came-parity_lt D packets a q)
          | no l ↦ came-parity_past D packets W a q (omega arith) ∙ sym (ap (λ x. x % 2) (sum_in_row D W rows₃ short₃ a q h.0 (omega arith)))
        ]

    -- the data half, from its parts
    read_back : Bytes packets → length packets ≡ survivors_bytes D → (consistent : Bool) → Tells consistent Clear → ReadBack D packets count whole consistent out
    read_back hp len consistent tells = record {
      ended = U.ended;
      full = U.full;
      kept = λ c p lc e. out_bits c p lc ∙ same₃ c p lc ∙ U.kept c p e ∙ kept₁ c p lc e;
      some = λ w. record {
        so = λ c. (out, clear_encoded hp len (tells.so c));
        not_so = λ c Y. tells.not_so c (encoded_clear w Y.0 Y.1);
      };
      these = read_these;
    }

    nothing_left : Clear → NoRest D rows₃
    nothing_left z a q = elim (dec_lt a d.m) [
      | yes l ↦ z (k + a) q (omega arith) (omega arith)
      | no l ↦ elim (dec_lt q row_bits) [
        | yes lq ↦ rests₃ a q lq ∙ off (omega arith) (present (k + a)) refl
        | no lq ↦ row_past rows₃ (k + a) q (omega arith)
      ]
    ]
      where
        off : d.m ≤ a → (v : Bool) → present (k + a) ≡ v → cond v (left D r s₃ a q) 0 ≡ 0
        off h false e = refl
        off h true e = absurd (omega (arith, none a e))

    pub ended : End count whole rows₃
    ended = record { short = short₃; read = read_back; nothing = nothing_left }
