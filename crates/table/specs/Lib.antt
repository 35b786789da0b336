pub mod Limits
pub mod Desk
pub mod Family
pub mod Table
pub mod Desks
pub mod Checks
pub mod Refusals
pub mod Families
