pub mod Edges
pub mod State
pub mod Step
pub mod Valid
pub mod Held
