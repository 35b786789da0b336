pub mod SumLaws
pub mod BitLaws
pub mod UpLaws
pub mod ByteLaws
pub mod SliceLaws
