pub mod Printing
pub mod Steps
pub mod Promise
pub mod Sheet
pub mod Given
