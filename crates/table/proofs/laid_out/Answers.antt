-- The table is laid out on a sheet of noughts. Assumes nothing.
use Rattle.bits.proofs.BitLaws.{get_or-zeros}
use Rattle.table.specs.Limits.{cells}
use borrow.Author.Rules.{rules}
use Rattle.table.proofs.laid_out.Goals as goal

pub lay_out-requires : goal.lay_out-requires
lay_out-requires c =
    record {
      k_le_max_k = search rules;
      shifts_len = search rules;
      by_index = λ i. get_or-zeros cells i;
    }
