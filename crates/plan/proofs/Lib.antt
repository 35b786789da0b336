pub mod ListedLaws
pub mod HeldLaws
pub mod EvenLaws
pub mod Planned
