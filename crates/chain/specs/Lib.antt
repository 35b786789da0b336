pub mod Run
pub mod Reading
pub mod Cut
pub mod Writing
pub mod Promise
