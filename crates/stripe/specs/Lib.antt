pub mod Stripes
pub mod Alone
pub mod Course
pub mod Parts
