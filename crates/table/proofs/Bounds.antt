-- A desk within the limits: what follows for the bits and bytes of its packets. Assumes nothing.
use mathlib.Core.List.{List}
use Prim.Native.Nat.{ℕ, ◌+◌, ◌*◌, ◌≤◌, ◌<◌}
use native.Mathlib.Omega.{arith}
use native.Mathlib.Nat.{mul-le-mul}
use Rattle.table.specs.Limits.{max_k, max_m, max_bits, max_bytes, max_shift, all_sources, longest}
use Rattle.table.specs.Desk.{Desk, desk, sources_bytes, reach, packet_bits, packet_bytes}
use Rattle.table.specs.Desks.{desk_of}
use Rattle.table.specs.declared.desks.Desk as laid
use Rattle.table.proofs.ShapeLaws.{Shaped}
use Rattle.table.proofs.TableLaws.{laid_in, entry_in}
use Rattle.table.proofs.PacketLaws.{source_fits, source_bits_high, source_bytes_high, source_bytes_low, reach_below, parity_packet_bits, parity_packet_bytes}

pub record Bounded (D : Desk) : Type 0 where
  pub k_high : D.k ≤ max_k
  pub m_high : D.m ≤ max_m
  pub some : 1 ≤ D.bytes
  pub bits_high : D.bits ≤ max_bits
  pub bytes_high : D.bytes ≤ max_bytes
  pub fits : D.bits ≤ 8 * D.bytes
  pub low : (a b : ℕ) → b < D.k → D.shift a b ≤ max_shift

pub within_bounds : (d : laid.Desk) → Bounded (desk_of d)
within_bounds d = record {
  k_high = d.within.k_high;
  m_high = d.within.m_high;
  some = source_bytes_low d.length d.within.l_low;
  bits_high = source_bits_high d.length d.within.l_high;
  bytes_high = source_bytes_high d.length d.within.l_high;
  fits = source_fits d.length;
  low = λ a b lb. omega (arith, laid_in d.k d.shifts a b lb, d.within.low (a * max_k + b));
}

-- and so for the desk of numbers and bytes that are accepted
pub shaped_bounds : (k m l : ℕ) (table : List ℕ) (marks : ℕ) → Shaped k m l table → Bounded (desk k m l table marks)
shaped_bounds k m l table marks S = record {
  k_high = S.k_high;
  m_high = S.m_high;
  some = source_bytes_low l S.l_low;
  bits_high = source_bits_high l S.l_high;
  bytes_high = source_bytes_high l S.l_high;
  fits = source_fits l;
  low = λ a b lb. omega (arith, entry_in k table a b lb, S.low (a * k + b));
}

module _ (D : Desk) (B : Bounded D) where
  open D use {k, m, bits, bytes, shift}

  -- all sources fit in the room for them
  pub sources_fit : sources_bytes D ≤ all_sources
  sources_fit = mul-le-mul B.k_high B.bytes_high

  -- no parity reaches further than the largest shift
  pub reach_low : (a : ℕ) → reach D a ≤ max_shift
  reach_low a = reach_below D a max_shift (B.low a)

  -- every parity fits in a row
  pub parity_bits_fit : (a : ℕ) → packet_bits D (k + a) ≤ 8 * longest
  parity_bits_fit a = omega (arith, parity_packet_bits D a, reach_low a, B.bits_high)

  pub parity_fits : (a : ℕ) → packet_bytes D (k + a) ≤ longest
  parity_fits a = omega (arith, parity_packet_bytes D (k + a) (omega arith), parity_bits_fit a)

  -- and so does a source with all its bytes, shifted up
  pub shifted_fits : (a b : ℕ) → a < m → b < k → shift a b + 8 * bytes ≤ 8 * longest
  shifted_fits a b la lb = omega (arith, B.low a b lb, B.bytes_high)
