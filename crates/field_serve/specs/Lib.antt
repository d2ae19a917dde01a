pub mod Holds
pub mod Lent
