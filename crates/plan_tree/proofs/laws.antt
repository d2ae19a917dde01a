pub mod Tree
pub mod Written
pub mod Theorems
pub mod Paths
pub mod Samples
pub mod Uses
