pub mod laws
pub mod Marks
