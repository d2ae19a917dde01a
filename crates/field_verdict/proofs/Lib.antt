pub mod Decided
pub mod Packets
pub mod Steps
