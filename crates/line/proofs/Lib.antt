pub mod Readings
pub mod Lines
pub mod OneAnswer
