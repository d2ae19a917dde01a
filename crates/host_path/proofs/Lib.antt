pub mod Walked
pub mod Known
pub mod Answers
