pub mod RowLaws
pub mod ShiftLaws
pub mod WordLaws
pub mod StoreLaws
pub mod ByteRowLaws
pub mod ClearLaws
pub mod DivideLaws
pub mod ClearFromLaws
