pub mod Choices
pub mod Promise
pub mod Given
