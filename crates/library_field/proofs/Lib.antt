pub mod laws
pub mod Kept
