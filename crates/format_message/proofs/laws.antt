pub mod Byte
pub mod Means
