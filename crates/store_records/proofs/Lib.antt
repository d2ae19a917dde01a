pub mod Bytes
pub mod Turns
