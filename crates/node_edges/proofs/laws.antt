pub mod Own
pub mod Edges
