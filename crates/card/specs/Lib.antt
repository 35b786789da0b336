pub mod Block
pub mod Promise
pub mod Taken
