pub mod Plan
pub mod Even
