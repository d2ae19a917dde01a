pub mod Marks
pub mod Fresh
