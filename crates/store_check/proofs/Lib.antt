pub mod laws
pub mod Parts
pub mod Outcomes
pub mod Stores
