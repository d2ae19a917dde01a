pub mod Reported
pub mod Traced
pub mod Tree
