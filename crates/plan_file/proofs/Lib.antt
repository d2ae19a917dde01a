pub mod laws
pub mod Head
pub mod Stores
