pub mod BlockLaws
pub mod IBlocks
pub mod OneAnswer
pub mod Examples
pub mod RuledOut
