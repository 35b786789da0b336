pub mod Orders
pub mod Holding
pub mod Successors
pub mod Ranks
pub mod OneAnswer
pub mod RuledOut
