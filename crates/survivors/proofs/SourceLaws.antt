-- Sources that stand one after another in one list are told by their bits. Assumes nothing.
use mathlib.Core.Path.{◌≡◌, sym, ap, ◌∙◌}
use mathlib.Core.List.{List}
use Prim.Native.Nat.{ℕ, ◌+◌, ◌*◌, ◌/◌, ◌%◌, ◌≤◌, ◌<◌}
use native.Mathlib.Omega.{arith}
use native.Mathlib.Nat.{div-add-mod', div-lt_iff_lt-mul, mod-lt}
use native.Mathlib.Decide.{dec_lt}
use lib.ListN.{length}
use Rattle.bits.specs.Bits.{bit_at, Bytes}
use Rattle.bits.proofs.BitLaws.{bit_at_past, bytes_ext}
use Rattle.table.specs.Desk.{Desk, sources_bytes, source_place}
use Rattle.code.specs.Code.{sources_of}
use Rattle.code.proofs.CodeLaws.{source-bit}

module _ (D : Desk) where
  open D use {k, bytes}

  -- bit p of source c, by its place in the list
  source-at : (x : List ℕ) (c p : ℕ) → p < 8 * bytes → sources_of D x c p ≡ bit_at x (source_place D c + p)
  source-at x c p h = source-bit D x c p h ∙ ap (bit_at x) (omega arith)

  -- lists of k sources are equal by the bits of the sources
  pub sources_ext : (x y : List ℕ) → 1 ≤ bytes → Bytes x → Bytes y → length x ≡ sources_bytes D → length y ≡ sources_bytes D
      → ((c q : ℕ) → c < k → sources_of D x c q ≡ sources_of D y c q) → x ≡ y
  sources_ext x y some hx hy nx ny h = bytes_ext x y hx hy (nx ∙ sym ny) (λ p. elim (dec_lt p (8 * sources_bytes D)) [
    | yes l ↦ inner p l
    | no l ↦ bit_at_past x p (omega arith) ∙ sym (bit_at_past y p (omega arith))
  ])
    where
      inner : (p : ℕ) → p < 8 * sources_bytes D → bit_at x p ≡ bit_at y p
      inner p l =
          let c = p / (8 * bytes) in
          let q = p % (8 * bytes) in
          let lq : q < 8 * bytes = mod-lt p (omega arith) in
          let lc : c < k = (div-lt_iff_lt-mul {k = 8 * bytes} {x = p} {y = k} (omega arith)).1 (omega arith) in
          let e : source_place D c + q ≡ p = div-add-mod' p (8 * bytes) in
          ap (bit_at x) (sym e) ∙ sym (source-at x c q lq) ∙ h c q lc ∙ source-at y c q lq ∙ ap (bit_at y) e
