pub mod SourceBits
pub mod MissingSums
pub mod StepLaws
pub mod ListedSums
pub mod LoadLaws
pub mod SolvingLaws
pub mod EndLaws
