pub mod PlaceLaws
pub mod TermLaws
pub mod EvenRowLaws
pub mod EvenColumnLaws
