pub mod Chains
pub mod Edges
pub mod Held
pub mod Samples
pub mod Step
