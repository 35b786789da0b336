pub mod Parts
pub mod Stages
pub mod Promise
