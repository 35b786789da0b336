pub mod Writings
pub mod Marking
pub mod Rows
pub mod OneAnswer
pub mod Sheets
pub mod RuledOut
