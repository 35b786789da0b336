pub mod AnyPacket
pub mod Demands
pub mod StepLists
pub mod Logs
pub mod Examples
