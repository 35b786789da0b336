pub mod Packets
pub mod Remainders
