pub mod SearchLaws
pub mod ListLaws
pub mod StepsSoFar
