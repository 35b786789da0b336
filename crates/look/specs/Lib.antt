pub mod Stages
pub mod Promise
pub mod Places
