pub mod Copies
pub mod laws
