pub mod Judge
pub mod Promise
