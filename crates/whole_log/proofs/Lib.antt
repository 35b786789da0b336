pub mod PartLaws
pub mod CheckParts
pub mod StageLaws
pub mod OneAnswer
