pub mod CodeLaws
pub mod RowLaws
