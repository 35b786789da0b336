pub mod BadLaws
pub mod LaidLaws
pub mod DoneLaws
pub mod CandidateLaws
