-- A sheet of noughts is within the limits, and no parity reaches anywhere. Assumes nothing.
use native.Mathlib.Omega.{arith}
use Rattle.table.specs.Limits.{max_m, cells}
use Rattle.table.proofs.TableLaws.{noughts-at}
use Rattle.table.proofs.PacketLaws.{noughts_measured}
use Rattle.table.proofs.desks.Desk.least.Goals as goal

pub invariant_of-result : goal.invariant_of-result
invariant_of-result c =
    record {
      within =
          record {
            k_low = omega arith;
            k_high = omega arith;
            m_low = omega arith;
            m_high = omega arith;
            l_low = omega arith;
            l_high = omega arith;
            low = λ i. omega (arith, noughts-at cells i);
          };
      measured = noughts_measured 1 1 cells max_m;
    }
