-- Laws of a block's checks: what each says that refuses nothing. Assumes nothing.
use mathlib.Core.Path.{◌≡◌, refl, subst}
use mathlib.Core.Logic.{◌⊎◌, inl, inr}
use mathlib.Core.List.{List}
use Prim.Native.Nat.{ℕ, ◌+◌, ◌≤◌}
use native.Mathlib.Omega.{arith}
use native.Mathlib.Decide.{ℕ_discrete, dec_lt}
use lib.ListN.{length, length-take, length-drop}
use Rattle.bits.specs.Bits.{xor_of}
use Rattle.table.specs.Checks.{Checked}
use Rattle.table.proofs.CheckLaws.{numbered_by, passed, zero_passes, not_unequal, neither}
use Rattle.card.specs.Block.{nad, pcb, len, information, TakenPcb, room_checks, form_checks, block_checks}

-- one of two where it is not neither
or_stable : {P Q : Type 0} → Dec P → (((Q → ⊥) → ⊥) → Q) → ((P ⊎ Q → ⊥) → ⊥) → P ⊎ Q
or_stable (yes p) stable h = inl p
or_stable (no n) stable h = inr (stable (λ q. h (neither n q)))

pub taken_or_not : (p : ℕ) → ((TakenPcb p → ⊥) → ⊥) → TakenPcb p
taken_or_not p =
    or_stable (ℕ_discrete p 0x00) (or_stable (ℕ_discrete p 0x20) (or_stable (ℕ_discrete p 0x40) not_unequal))

-- a block whose form refuses nothing
pub record Formed (block : List ℕ) : Type 0 where
  pub free : len block ≡ 255 → ⊥
  pub exact : length block ≡ len block + 4
  pub summed : xor_of block ≡ 0
  pub to_us : nad block ≡ 0x00
  pub taken : TakenPcb (pcb block)

pub formed : (block : List ℕ) {n : ℕ} → Checked (form_checks block) n → n ≡ 0 → Formed block
formed block x z =
    let p = zero_passes (form_checks block) (numbered_by (form_checks block) refl) (subst (Checked (form_checks block)) z x) in
    record {
      free = p.1.0;
      exact = not_unequal p.1.1.0;
      summed = not_unequal p.1.1.1.0;
      to_us = not_unequal (λ n. p.1.1.1.1.0 (inl n));
      taken = taken_or_not (pcb block) (λ n. p.1.1.1.1.0 (inr n));
    }

-- and whose information fits
pub fitting : (block : List ℕ) (room : ℕ) {n : ℕ} → Checked (block_checks block room) n → n ≡ 0 → Formed block × (len block ≤ room)
fitting block room x z =
    let p = passed (form_checks block) (room_checks (len block) room) (numbered_by (form_checks block) refl) (subst (Checked (block_checks block room)) z x) in
    let fits = (zero_passes (room_checks (len block) room) (numbered_by (room_checks (len block) room) refl) p.1).0 in
    (formed block p.0 refl, elim (dec_lt room (len block)) [ yes l ↦ absurd (fits l) | no l ↦ omega arith ])

-- the information bytes of a block that is LEN + 4 bytes long are LEN
pub information-length : (block : List ℕ) → length block ≡ len block + 4 → length (information block) ≡ len block
information-length block e = simp (length-take, length-drop) (omega arith)
