pub mod Solve
pub mod EvenRows
pub mod EvenColumns
