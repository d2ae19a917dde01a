pub mod Outcomes
pub mod Samples
pub mod Acts
pub mod Claims
