pub mod Walk
pub mod Ends
pub mod Grow
pub mod Read
pub mod Compute
pub mod Promise
pub mod Parts
pub mod Lows
