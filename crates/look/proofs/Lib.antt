pub mod LookLaws
pub mod OneAnswer
pub mod RuledOut
