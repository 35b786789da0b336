pub mod Data
pub mod Solving
