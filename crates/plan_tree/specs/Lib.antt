pub mod Lent
pub mod Tree
pub mod Claim
pub mod laws
