pub mod AnswerLaws
pub mod StoreLaws
pub mod OneAnswer
pub mod NoneMissing
