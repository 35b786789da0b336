pub mod StepLaws
pub mod OneAnswer
pub mod Answers
