pub mod CheckParts
pub mod PacketRows
pub mod OneAnswer
pub mod NoneMissing
